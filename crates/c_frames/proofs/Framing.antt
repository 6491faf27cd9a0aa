-- What a part of a real run changes: cells of some objects, and those declared in it.
use Rattle.std.proofs.Common.{◌≡◌, ◌⊎◌, ◌<◌, ◌≤◌, ◌+◌, ℕ, zero, suc, ℤ, pos, Bool, true, false, cond, nat_eq, nat_le, IsTrue, List, [], ◌∷◌, ◌++◌, length, take, Option, Some, None, refl, sym, ap, ap₂, ◌∙◌, subst, inl, inr, ⊎_elim, arith, append_assoc, append-nil, true≢false, length-append}
use Rattle.std.proofs.lemmas.Bool.{cases_Bool, or_left, or_right, or_cases}
use Rattle.std.proofs.lemmas.Bool.Decides.{nat_tests}
use Rattle.c_core.specs.Types.{fit}
use Rattle.c_core.specs.Operators.{apply_of, apply_one_of}
use Rattle.c_core.specs.Tree.{Program}
use Rattle.c_core.specs.declared.number.Spot.{Spot}
use Rattle.c_core.specs.declared.number.Done.{Done}
use Rattle.c_core.specs.declared.number.Done.TheVariants.{Value, Overflow, Undefined as NoValue}
use Rattle.c_core.specs.declared.number.Property.{Property}
use Rattle.c_core.specs.declared.number.Property.TheVariants.{UnreachCall, NoOverflow}
use Rattle.c_meaning.specs.declared.run.End.{End}
use Rattle.c_meaning.specs.declared.run.End.TheVariants.{Undefined, Violated, Deep}
use Rattle.c_meaning.specs.declared.run.Event.{Event}
use Rattle.c_meaning.specs.declared.run.Way.TheVariants.{Truth}
use Rattle.c_meaning.specs.declared.run.Event.TheVariants.{At, Branch, Enter, Return, Fail}
use Rattle.c_meaning.specs.Cells.{Key, Cell, live, put, cells_from}
use Rattle.c_meaning.specs.Objects.{size_of_object, columns_of_object}
use Rattle.c_meaning.specs.Parts.{is_in}
use Rattle.c_meaning.specs.Meaning.{Where, Site, Loop}
use Rattle.c_meaning.specs.Acts.{Res, Go, Stop, Flow, Next, Broken, Again, Gave, bind, go_on, turned, continuing, held, given}
use Rattle.c_meaning.specs.Acts as acts
use Rattle.c_meaning.specs.Run as run
use Rattle.c_meaning.specs.Run.{State, Moment, Here, Head, cells_of, with_cells, cell_among, arm_for, way_for, real}
use Rattle.c_meaning.specs.Related.{Units, Same, Relation, Preserves}
use Rattle.c_meaning.proofs.Indexes.{among_is}
use Rattle.c_meaning.specs.Fitting.{keys}
use Rattle.c_frames.specs.Frames.{IsCellOf, SameBut}
use Rattle.c_frames.proofs.CellLaws.{among, live_among, among-append, put_high, put_low, keys_put, keys-append, take_over, keys_length, names_take, same_refl, same_trans, same_put, same_length, Split, same_split, name_same, same_itself}

-- so many cells' names, from an index on
abbrev pub names_from : ℕ → ℕ → ℕ → List Key
names_from o i zero = []
names_from o i (suc n) = record { object = o; index = i } ∷ names_from o (suc i) n

keys_new : (o i n : ℕ) → keys (cells_from o i n []) ≡ names_from o i n
keys_new o i zero = refl
keys_new o i (suc n) = ap (λ ks. record { object = o; index = i } ∷ ks) (keys_new o (suc i) n)

among_names : (o i n j : ℕ) → i ≤ j → j < i + n → among (record { object = o; index = j }) (names_from o i n) ≡ true
among_names o i zero j l u = absurd (omega (arith, l, u))
among_names o i (suc n) j l u = by (nat_eq i j) refl (λ m. among_names o (suc i) n j m (omega (arith, u)))
  where
    by : (b : Bool) → nat_eq i j ≡ b → (suc i ≤ j → among (record { object = o; index = j }) (names_from o (suc i) n) ≡ true) → among (record { object = o; index = j }) (names_from o i (suc n)) ≡ true
    by true e f = let q : i ≡ j = grind (arith, nat_tests) in or_left _ _ (name_same _ _ (λ x. record { object = o; index = q x }))
    by false e f = or_right _ _ (f (grind (arith, nat_tests)))

-- nothing is said of ends
module _ (p : Program) where
  -- the names of these objects' cells
  abbrev pub names : List ℕ → List Key
  names [] = []
  names (o ∷ os) = names_from o 0 (size_of_object p o) ++ names os

  names-append : (os qs : List ℕ) → names (os ++ qs) ≡ names os ++ names qs
  names-append [] qs = refl
  names-append (o ∷ os) qs = ap (λ ks. names_from o 0 (size_of_object p o) ++ ks) (names-append os qs) ∙ sym (append_assoc (names_from o 0 (size_of_object p o)) (names os) (names qs))

  pub in_names : (os : List ℕ) (o i : ℕ) → is_in o os ≡ true → i < size_of_object p o → among (record { object = o; index = i }) (names os) ≡ true
  in_names [] o i h l = absurd (true≢false (sym h))
  in_names (x ∷ os) o i h l =
      among-append (record { object = o; index = i }) (names_from x 0 (size_of_object p x)) (names os)
      ∙ ⊎_elim (λ e. or_left _ _ (here e)) (λ r. or_right _ _ (in_names os o i r l)) (or_cases (nat_eq o x) (is_in o os) h)
    where
      here : nat_eq o x ≡ true → among (record { object = o; index = i }) (names_from x 0 (size_of_object p x)) ≡ true
      here e = let q : o ≡ x = grind (arith, nat_tests) in subst (λ y. among (record { object = o; index = i }) (names_from y 0 (size_of_object p y)) ≡ true) q (among_names o 0 (size_of_object p o) i (omega arith) (omega (arith, l)))

  module _ (A : List ℕ) where
    -- the base, with other values at these objects' cells, and behind it cells of these names
    pub record Over (base : List Cell) (ks : List Key) (cs : List Cell) : Type 0 where
      pub low : List Cell
      pub high : List Cell
      pub same : SameBut p A base low
      pub behind : keys high ≡ ks
      pub is : cs ≡ low ++ high

    pub none_high : (cs : List Cell) → Over cs [] cs
    none_high cs = record { low = cs; high = []; same = same_refl p A cs; behind = refl; is = sym (append-nil cs) }

    nothing : (cs : List Cell) → keys cs ≡ [] → cs ≡ []
    nothing [] e = refl
    nothing (c ∷ cs) e = absurd (cc)

    pub over_same : (base cs : List Cell) → Over base [] cs → SameBut p A base cs
    over_same base cs o = subst (λ ds. SameBut p A base ds) (sym (o.is ∙ ap (λ h. o.low ++ h) (nothing o.high o.behind) ∙ append-nil o.low)) o.same

    write_over : (base : List Cell) (ks : List Key) (k : Key) (v : ℤ) → (among k ks ≡ true) ⊎ IsCellOf p A k → (cs : List Cell) → Over base ks cs → Over base ks (put k v cs)
    write_over base ks k v h cs o = ⊎_elim high (λ d. ⊎_elim (λ i. absurd (true≢false (sym i ∙ sym (ap (among k) o.behind) ∙ sym (live_among k o.high) ∙ d))) (low d) h) (cases_Bool (live k o.high))
      where
        high : live k o.high ≡ true → Over base ks (put k v cs)
        high l = record { low = o.low; high = put k v o.high; same = o.same; behind = keys_put k v o.high ∙ o.behind; is = ap (put k v) o.is ∙ put_high k v o.low o.high l }

        low : live k o.high ≡ false → IsCellOf p A k → Over base ks (put k v cs)
        low l i = record { low = put k v o.low; high = o.high; same = same_trans p A base o.low (put k v o.low) o.same (same_put p A k v o.low i); behind = o.behind; is = ap (put k v) o.is ∙ put_low k v o.low o.high l }

    -- what is cut is what was added
    cut_over : (base : List Cell) (ks more : List Key) (cs ds : List Cell) → Over base ks cs → Over base (ks ++ more) ds → Over base ks (take (length cs) ds)
    cut_over base ks more cs ds o q =
        let e : length cs ≡ length q.low + length ks = ap length o.is ∙ length-append o.low o.high ∙ ap₂ (λ a b. a + b) (same_length p A base o.low o.same ∙ sym (same_length p A base q.low q.same)) (sym (keys_length o.high) ∙ ap length o.behind) in
        record { low = q.low; high = take (length ks) q.high; same = q.same; behind = names_take ks more q.high q.behind; is = ap₂ take e q.is ∙ take_over q.low q.high (length ks) }

    -- a change of the whole is a change of both parts
    over_then : (base : List Cell) (ks : List Key) (cs ds : List Cell) → Over base ks cs → SameBut p A cs ds → Over base ks ds
    over_then base ks cs ds o s =
        let r : Split p A o.low o.high ds = same_split p A o.low o.high ds (subst (λ x. SameBut p A x ds) o.is s) in
        record { low = r.low; high = r.high; same = same_trans p A base o.low r.low o.same r.same; behind = r.names ∙ o.behind; is = r.is }

    add_over : (base : List Cell) (L : List ℕ) (o n : ℕ) (cs : List Cell) → n ≡ size_of_object p o → Over base (names L) cs → Over base (names (L ++ o ∷ [])) (cs ++ cells_from o 0 n [])
    add_over base L o n cs e q = record {
      low = q.low;
      high = q.high ++ cells_from o 0 n [];
      same = q.same;
      behind = keys-append q.high (cells_from o 0 n []) ∙ ap₂ (λ a b. a ++ b) q.behind (keys_new o 0 n ∙ ap (names_from o 0) e ∙ sym (append-nil (names_from o 0 (size_of_object p o)))) ∙ sym (names-append L (o ∷ []));
      is = ap (λ x. x ++ cells_from o 0 n []) q.is ∙ append_assoc q.low q.high (cells_from o 0 n []);
    }

    module _ (S : Type 0) (see : Moment → S → S) where
      abbrev pub Act : Type 0 → Type 0
      Act X = State S → Res End (State S) X

      abbrev pub In : List Cell → List ℕ → List Cell → Type 0
      In base L cs = Over base (names L) cs

      -- an expression, where these objects were declared since
      abbrev pub Kept : {X Y : Type 0} → List Cell → List ℕ → (X → Y → Type 0) → Res End (State S) X → Type 0
      Kept {Y = Y} base L R (Go a s) = In base L s.cells × ((b : Y) × R a b)
      Kept base L R (Stop e s) = Unit {0}

      pub record Keeps {X Y : Type 0} (L : List ℕ) (R : X → Y → Type 0) (m : Act X) : Type 0 where
        pub at : (base : List Cell) (s : State S) → In base L s.cells → Kept base L R (m s)

      -- not so far back as before these objects
      abbrev pub Past : List Cell → List ℕ → List Cell → Type 0
      Past base L cs = (more : List Key) × Over base (names L ++ more) cs

      abbrev pub Lands : List Cell → List ℕ → List ℕ → Res End (State S) Flow → Type 0
      Lands base L M (Go Next s) = (more : List ℕ) × (M ≡ L ++ more) × In base M s.cells
      Lands base L M (Go Broken s) = Past base L s.cells
      Lands base L M (Go Again s) = Past base L s.cells
      Lands base L M (Go (Gave v) s) = Past base L s.cells
      Lands base L M (Stop e s) = Unit {0}

      -- a statement
      pub record Moves (L M : List ℕ) (a : Act Flow) : Type 0 where
        pub at : (base : List Cell) (s : State S) → In base L s.cells → Lands base L M (a s)

      keeps_ret : {X Y : Type 0} (L : List ℕ) (R : X → Y → Type 0) (a : X) (b : Y) → R a b → Keeps L R (run.ret p S see a)
      keeps_ret L R a b q = record { at = λ base s o. (o, (b, q)) }

      keeps_stop : {X Y : Type 0} (L : List ℕ) (R : X → Y → Type 0) (e : End) → Keeps L R (run.stop p S see {A = X} e)
      keeps_stop L R e = record { at = λ base s o. tt }

      keeps_then : {X Y Z W : Type 0} (L : List ℕ) (R : X → Y → Type 0) (Q : Z → W → Type 0) (m : Act X) (k : X → Act Z) → Keeps L R m → ((a : X) (b : Y) → R a b → Keeps L Q (k a)) → Keeps L Q (λ s. bind (m s) k)
      keeps_then L R Q m k g f = record { at = λ base s o. by base (m s) (g.at base s o) }
        where
          by : (base : List Cell) (r : Res End (State S) _) → Kept base L R r → Kept base L Q (bind r k)
          by base (Go a t) o = (f a o.1.0 o.1.1).at base t o.0
          by base (Stop e t) o = tt

      moves_using : {X Y : Type 0} (L M : List ℕ) (R : X → Y → Type 0) (m : Act X) (k : X → Act Flow) → Keeps L R m → ((a : X) (b : Y) → R a b → Moves L M (k a)) → Moves L M (λ s. bind (m s) k)
      moves_using L M R m k g f = record { at = λ base s o. by base (m s) (g.at base s o) }
        where
          by : (base : List Cell) (r : Res End (State S) _) → Kept base L R r → Lands base L M (bind r k)
          by base (Go a t) o = (f a o.1.0 o.1.1).at base t o.0
          by base (Stop e t) o = tt

      still : (base : List Cell) (L : List ℕ) (cs : List Cell) → In base L cs → Past base L cs
      still base L cs o = ([], subst (λ ks. Over base ks cs) (sym (append-nil (names L))) o)

      flow_lands : (base : List Cell) (L : List ℕ) (f : Flow) (s : State S) → In base L s.cells → Lands base L L (Go f s)
      flow_lands base L Next s o = ([], sym (append-nil L), o)
      flow_lands base L Broken s o = still base L s.cells o
      flow_lands base L Again s o = still base L s.cells o
      flow_lands base L (Gave v) s o = still base L s.cells o

      moves_ret : (L : List ℕ) (f : Flow) → Moves L L (run.ret p S see f)
      moves_ret L f = record { at = λ base s o. flow_lands base L f s o }

      further : (base : List Cell) (L M more : List ℕ) (cs : List Cell) → M ≡ L ++ more → Past base M cs → Past base L cs
      further base L M more cs e q = (names more ++ q.0, subst (λ ks. Over base ks cs) (ap (λ ks. ks ++ q.0) (ap names e ∙ names-append L more) ∙ append_assoc (names L) (names more) q.0) q.1)

      on_from : (base : List Cell) (L M N more : List ℕ) → M ≡ L ++ more → (r : Res End (State S) Flow) → Lands base M N r → Lands base L N r
      on_from base L M N more e (Stop x s) l = tt
      on_from base L M N more e (Go Next s) l = (more ++ l.0, l.1 ∙ ap (λ os. os ++ l.0) e ∙ append_assoc L more l.0, l.2)
      on_from base L M N more e (Go Broken s) l = further base L M more s.cells e l
      on_from base L M N more e (Go Again s) l = further base L M more s.cells e l
      on_from base L M N more e (Go (Gave v) s) l = further base L M more s.cells e l

      moves_seq : (L M N : List ℕ) (a b : Act Flow) → Moves L M a → Moves M N b → Moves L N (λ s. bind (a s) (go_on b))
      moves_seq L M N a b g h = record { at = λ base s o. by base (a s) (g.at base s o) }
        where
          by : (base : List Cell) (r : Res End (State S) Flow) → Lands base L M r → Lands base L N (bind r (go_on b))
          by base (Go Next t) o = on_from base L M N o.0 o.1 (b t) (h.at base t o.2)
          by base (Go Broken t) o = o
          by base (Go Again t) o = o
          by base (Go (Gave v) t) o = o
          by base (Stop e t) o = tt

      cut_past : (base : List Cell) (L : List ℕ) (cs ds : List Cell) → In base L cs → Past base L ds → In base L (take (length cs) ds)
      cut_past base L cs ds o q = cut_over base (names L) q.0 cs ds o q.1

      next_past : (base : List Cell) (L M more : List ℕ) (cs : List Cell) → M ≡ L ++ more → In base M cs → Past base L cs
      next_past base L M more cs e o = further base L M more cs e (still base M cs o)

      past_all : (base : List Cell) (L M : List ℕ) (f : Flow) (s : State S) → Lands base L M (Go f s) → Past base L s.cells
      past_all base L M Next s l = next_past base L M l.0 s.cells l.1 l.2
      past_all base L M Broken s l = l
      past_all base L M Again s l = l
      past_all base L M (Gave v) s l = l

      moves_scoped : (L M : List ℕ) (a : Act Flow) → Moves L M a → Moves L L (acts.scoped End (State S) cells_of with_cells a)
      moves_scoped L M a h = record { at = λ base s o. by base s o (a s) (h.at base s o) }
        where
          by : (base : List Cell) (s : State S) → In base L s.cells → (r : Res End (State S) Flow) → Lands base L M r → Lands base L L (acts.cut End (State S) cells_of with_cells (length s.cells) r)
          by base s o (Go f t) l = flow_lands base L f _ (cut_past base L s.cells t.cells o (past_all base L M f t l))
          by base s o (Stop e t) l = tt

      moves_continued : (L M : List ℕ) (a : Act Flow) → Moves L M a → Moves L L (acts.continued End (State S) cells_of with_cells a)
      moves_continued L M a h = record { at = λ base s o. by base s o (a s) (h.at base s o) }
        where
          by : (base : List Cell) (s : State S) → In base L s.cells → (r : Res End (State S) Flow) → Lands base L M r → Lands base L L (bind (acts.cut End (State S) cells_of with_cells (length s.cells) r) (λ g u. Go (continuing g) u))
          by base s o (Go f t) l = flow_lands base L (continuing f) _ (cut_past base L s.cells t.cells o (past_all base L M f t l))
          by base s o (Stop e t) l = tt

      moves_breaks : (L M : List ℕ) (a : Act Flow) → Moves L M a → Moves L L (acts.breaks End (State S) cells_of with_cells a)
      moves_breaks L M a h = record { at = λ base s o. by base s o (a s) (h.at base s o) }
        where
          by : (base : List Cell) (s : State S) → In base L s.cells → (r : Res End (State S) Flow) → Lands base L M r → Lands base L L (bind (acts.cut End (State S) cells_of with_cells (length s.cells) r) (λ g u. Go (held g) u))
          by base s o (Go f t) l = flow_lands base L (held f) _ (cut_past base L s.cells t.cells o (past_all base L M f t l))
          by base s o (Stop e t) l = tt

      -- a loop: each turn, and what it is left with
      abbrev Ahead : List Cell → List ℕ → Res End (State S) Flow → Type 0
      Ahead base L (Go f s) = Past base L s.cells
      Ahead base L (Stop e s) = Unit {0}

      turns_ahead : (n : ℕ) (at : Spot) (l : Loop) (arrived : List Cell) (L : List ℕ) (m : Act Flow) → Moves L L m → (base : List Cell) (s : State S) → In base L s.cells → Ahead base L (run.turns p S see n at l arrived m s)
      turns_ahead zero at l arrived L m h base s o = tt
      turns_ahead (suc n) at l arrived L m h base s o =
          let s0 : State S = record s { seen = see (Head at l arrived s.cells) s.seen } in
          by (λ t q. turns_ahead n at l arrived L m h base t q) (m s0) (h.at base s0 o)
        where
          by : ((t : State S) → In base L t.cells → Ahead base L (run.turns p S see n at l arrived m t)) → (r : Res End (State S) Flow) → Lands base L L r → Ahead base L (bind r (turned (run.turns p S see n at l arrived m)))
          by f (Go Next t) q = f t q.2
          by f (Go Broken t) q = q
          by f (Go Again t) q = q
          by f (Go (Gave v) t) q = q
          by f (Stop e t) q = tt

      pub moves_loop : (L : List ℕ) (at : Spot) (l : Loop) (m : Act Flow) → Moves L L m → Moves L L (acts.scoped End (State S) cells_of with_cells (run.loop p S see at l m))
      moves_loop L at l m h = record { at = λ base s o. by base s o (run.loop p S see at l m s) (turns_ahead (suc s.steps) at l s.cells L m h base s o) }
        where
          by : (base : List Cell) (s : State S) → In base L s.cells → (r : Res End (State S) Flow) → Ahead base L r → Lands base L L (acts.cut End (State S) cells_of with_cells (length s.cells) r)
          by base s o (Go f t) l = flow_lands base L f _ (cut_past base L s.cells t.cells o l)
          by base s o (Stop e t) l = tt

      keeps_cond : {X Y : Type 0} (L : List ℕ) (R : X → Y → Type 0) (t : Bool) (a b : Act X) → Keeps L R a → Keeps L R b → Keeps L R (λ s. cond t a b s)
      keeps_cond L R true a b f g = record { at = λ base s. f.at base s }
      keeps_cond L R false a b f g = record { at = λ base s. g.at base s }

      moves_cond : (L M : List ℕ) (t : Bool) (a b : Act Flow) → Moves L M a → Moves L M b → Moves L M (λ s. cond t a b s)
      moves_cond L M true a b f g = record { at = λ base s. f.at base s }
      moves_cond L M false a b f g = record { at = λ base s. g.at base s }

      keeps_tell : (L : List ℕ) (e : Event) → Keeps L Units (run.tell p S see e)
      keeps_tell L e = record { at = λ base s o. (o, (tt, tt)) }

      keeps_after : {X Y : Type 0} (L : List ℕ) (R : X → Y → Type 0) (e : Event) (k : Act X) → Keeps L R k → Keeps L R (λ s. bind (run.tell p S see e s) (λ _. k))
      keeps_after L R e k g = keeps_then L Units R (run.tell p S see e) (λ _. k) (keeps_tell L e) (λ _ _ _. g)

      tick_kept : (n : ℕ) (base : List Cell) (L : List ℕ) (s : State S) → In base L s.cells → Kept base L Units (run.tick_from p S see n s)
      tick_kept zero base L s o = tt
      tick_kept (suc n) base L s o = (o, (tt, tt))

      room_kept : (b : Bool) (base : List Cell) (L : List ℕ) (s : State S) → In base L s.cells → Kept {X = Unit {0}} base L Units (cond b (Go tt s) (Stop Deep s))
      room_kept true base L s o = (o, (tt, tt))
      room_kept false base L s o = tt

      -- any value, and a cell of an object
      abbrev Any : ℤ → ℤ → Type 0
      Any v w = Unit {0}

      abbrev Of : ℕ → Key → Key → Type 0
      Of o k k' = (k.object ≡ o) × (k.index < size_of_object p o)

      key_kept : (L : List ℕ) (spot : Spot) (o : ℕ) (i : Option ℕ) → ((j : ℕ) → i ≡ Some j → j < size_of_object p o) → Keeps L (Of o) (run.key_of p S see spot o i)
      key_kept L spot o None h = keeps_stop L _ _
      key_kept L spot o (Some i) h = let k : Key = record { object = o; index = i } in keeps_ret L _ k k (refl, h i refl)

      keeps_violated : {X Y : Type 0} (L : List ℕ) (R : X → Y → Type 0) (at : Where) (spot : Spot) (call : Option Spot) → Keeps L R (run.violated p S see {A = X} at spot call)
      keeps_violated L R at spot call = keeps_after L R (Fail at.statement at.full call) (run.stop p S see (Violated spot)) (keeps_stop L R (Violated spot))

      keeps_overflowed : (L : List ℕ) (q : Property) (at : Where) (spot : Spot) (v : ℤ) → Keeps {Y = ℤ} L Any (run.overflowed p S see q at spot v)
      keeps_overflowed L NoOverflow at spot v = keeps_violated L _ at spot None
      keeps_overflowed L UnreachCall at spot v = keeps_ret L _ v v tt

      keeps_answered : (L : List ℕ) (at : Where) (spot : Spot) (d : Done) → Keeps {Y = ℤ} L Any (run.answered p S see at spot d)
      keeps_answered L at spot (Value v) = keeps_ret L _ v v tt
      keeps_answered L at spot (Overflow v) = keeps_overflowed L p.property at spot v
      keeps_answered L at spot NoValue = keeps_stop L _ _

      keeps_reached : (L : List ℕ) (q : Property) (at : Where) (site : Site) → Keeps {Y = ℤ} L Any (run.reached p S see q at site)
      keeps_reached L UnreachCall at site = keeps_violated L _ at site.spot (Some site.spot)
      keeps_reached L NoOverflow at site = keeps_stop L _ _

      keeps_returned : (L : List ℕ) (site : Site) (v : Option ℤ) → Keeps {Y = ℤ} L Any (run.returned p S see site v)
      keeps_returned L site (Some v) = keeps_after L Any (Return site.close (Some v)) (run.ret p S see v) (keeps_ret L Any v v tt)
      keeps_returned L site None =
          keeps_after L Any (Return site.close None) (λ s. cond site.needed (run.stop p S see (Undefined site.spot)) (run.ret p S see (pos 0)) s)
          (keeps_cond L Any site.needed _ _ (keeps_stop L Any (Undefined site.spot)) (keeps_ret L Any (pos 0) (pos 0) tt))

      -- a function's body is a scope of its own over all cells that live
      keeps_body : (L M : List ℕ) (a : Act Flow) → Moves [] M a → Keeps {Y = Flow} L (λ f g. Unit {0}) (acts.scoped End (State S) cells_of with_cells a)
      keeps_body L M a h = record { at = λ base s o. by base s o (a s) (h.at s.cells s (none_high s.cells)) }
        where
          by : (base : List Cell) (s : State S) → In base L s.cells → (r : Res End (State S) Flow) → Lands s.cells [] M r → Kept {Y = Flow} base L (λ f g. Unit {0}) (acts.cut End (State S) cells_of with_cells (length s.cells) r)
          by base s o (Go f t) l = (over_then base (names L) s.cells (take (length s.cells) t.cells) o (over_same s.cells _ (cut_past s.cells [] s.cells t.cells (none_high s.cells) (past_all s.cells [] M f t l))), (f, tt))
          by base s o (Stop e t) l = tt

      keeps_called : (L M : List ℕ) (site : Site) (a : Act Flow) → Moves [] M a → Keeps {Y = ℤ} L Any (run.called p S see site a)
      keeps_called L M site a h =
          keeps_then {Y = Unit {0}} L Units Any (run.deeper p S see) _ (record { at = λ base s o. (o, (tt, tt)) }) (λ _ _ _.
          keeps_then {Y = Flow} L (λ f g. Unit {0}) Any (acts.scoped End (State S) cells_of with_cells a) _ (keeps_body L M a h) (λ g _ _.
          keeps_then {Y = Unit {0}} L Units Any (run.shallower p S see) _ (record { at = λ base s o. (o, (tt, tt)) }) (λ _ _ _. keeps_returned L site (given g))))

      -- an object may be written where it was declared since, or is among the objects
      abbrev pub MayWrite : List ℕ → ℕ → Type 0
      MayWrite L o = 0 < size_of_object p o → IsTrue (is_in o L) ⊎ IsTrue (is_in o A)

      keeps_write : (L : List ℕ) (o : ℕ) (k : Key) (v : ℤ) → MayWrite L o → Of o k k → Keeps L Units (acts.write End (State S) cells_of with_cells k v)
      keeps_write L o k v m t = record { at = λ base s c. (write_over base (names L) k v may s.cells c, (tt, tt)) }
        where
          some : 0 < size_of_object p o
          some = omega (arith, t.1)

          own : IsTrue (is_in o L) → among k (names L) ≡ true
          own q = subst (λ x. among (record { object = x; index = k.index }) (names L) ≡ true) (sym t.0) (in_names L o k.index q t.1)

          outer : IsTrue (is_in o A) → IsCellOf p A k
          outer q = (subst (λ x. is_in x A ≡ true) (sym t.0) q, subst (λ x. k.index < size_of_object p x) (sym t.0) t.1)

          may : (among k (names L) ≡ true) ⊎ IsCellOf p A k
          may = ⊎_elim (λ q. inl (own q)) (λ q. inr (outer q)) (m some)

      moves_declare : (L : List ℕ) (o n : ℕ) → n ≡ size_of_object p o → Moves L (L ++ o ∷ []) (acts.declare End (State S) cells_of with_cells o n)
      moves_declare L o n q = record { at = λ base s c. (o ∷ [], refl, add_over base L o n s.cells q c) }

      is_last : (o : ℕ) (L : List ℕ) → is_in o (L ++ o ∷ []) ≡ true
      is_last o [] = or_left (nat_eq o o) false (same_itself o)
      is_last o (x ∷ L) = or_right (nat_eq o x) (is_in o (L ++ o ∷ [])) (is_last o L)

      module _ (MayCall : ℕ → Type 0) where
        abbrev pub framing : Relation (real p S see) (real p S see)
        framing = record {
          Scope = List ℕ;
          more = λ L o. L ++ o ∷ [];
          Entry = λ L. L ≡ [];
          Values = λ ty v w. Unit {0};
          Truths = λ t u. Unit {0};
          Targets = λ o x y. Of o x y;
          Acts = λ L R m n. Keeps L R m;
          Dones = λ ty L M a b. Moves L M a;
          Agree = λ a b. Unit {0};
          IsConst = λ ty v. Unit {0};
          HasCell = λ o i. i < size_of_object p o;
          HasSize = λ o n. n ≡ size_of_object p o;
          MayRead = λ L o. Unit {0};
          MayWrite = λ L o. MayWrite L o;
          MayCall = λ f. MayCall f;
          MayLoop = λ L at l. Unit {0};
        }

        retyped : (L : List ℕ) (m : Act ℤ) → Keeps {Y = ℤ} L Any m → Keeps {Y = ℤ} L Any m
        retyped L m f = f

        pub framing_keeps : Preserves p framing
        framing_keeps = record {
          ret = λ L R a b q. keeps_ret L R a b q;
          bind = λ L R Q m n k l g f. keeps_then L R Q m k g f;
          using = λ ty L M R m n k l g f. moves_using L M R m k g f;
          tick = λ L t. record { at = λ base s o. tick_kept s.steps base L s o };
          room = λ L n. record { at = λ base s o. room_kept (nat_le (length s.cells + s.active + n) run.most_cells) base L s o };
          retype = λ a b v w e q. tt;
          retyped = λ L a b m n e q. q;
          const = λ ty v q. tt;
          digit = λ b. tt;
          convert = λ L from to v w q. keeps_ret L Any (fit p.model to v) w tt;
          test = λ L ty v w q. keeps_ret L _ _ true tt;
          truth = λ t u q. tt;
          draw = λ L kind spot ty. record { at = λ base s o. (o, (pos 0, tt)) };
          cell = λ o i q. (refl, q);
          element = λ L spot o vs ws q. key_kept L spot o (cell_among (size_of_object p o) (columns_of_object p o) vs) (λ j e. among_is (size_of_object p o) (columns_of_object p o) vs j e);
          look = λ L o x y m q. record { at = λ base s c. (c, (pos 0, tt)) };
          write = λ L o x y v w m t q. keeps_write L o x v m t;
          answer = λ L at spot op ty x x' right y y' q r. keeps_answered L at spot (apply_of p.model op ty x y);
          answer_one = λ L at spot op ty x x' q. keeps_answered L at spot (apply_one_of p.model op ty x);
          choose = λ ty L t u a a' b b' q f g. keeps_cond L Any t a b f g;
          pick = λ ty L mark t u a a' b b' q f g. keeps_after L Any (Branch mark (Truth t)) (λ s. cond t a b s) (keeps_cond L Any t a b f g);
          enter = λ L site. keeps_tell L (Enter site.close);
          came_back = λ L site ty v w q. keeps_tell L (Return site.close (Some v));
          reach = λ L at site. keeps_reached L p.property at site;
          ending = λ L. keeps_stop L _ _;
          called = λ ty L site a b end f. keeps_called L (end []) site a (f [] refl);
          missing = λ L. keeps_stop L _ _;
          here = λ L at. keeps_then {Y = Unit {0}} L Units Units (λ s. run.note p S see (Here at s.cells) s) _ (record { at = λ base s o. (o, (tt, tt)) }) (λ _ _ _. keeps_tell L (At at));
          declare = λ ty L o n q. moves_declare L o n q;
          own = λ L o s. inl (is_last o L);
          branch = λ ty L M at t u a a' b b' q f g. moves_using {Y = Unit {0}} L M Units (run.tell p S see (Branch at (Truth t))) _ (keeps_tell L (Branch at (Truth t))) (λ _ _ _. moves_cond L M t a b f g);
          select = λ L at ty v w ls q. keeps_after L Same (Branch at (way_for v ls)) (run.ret p S see (arm_for v ls)) (keeps_ret L Same (arm_for v ls) (arm_for v ls) refl);
          next = λ ty L. moves_ret L Next;
          leave = λ ty L. moves_ret L Broken;
          again = λ ty L. moves_ret L Again;
          give = λ ty L v w q. moves_ret L (Gave (Some v));
          give_none = λ ty L q. moves_ret L (Gave None);
          seq = λ ty L M N a a' b b' f g. moves_seq L M N a b f g;
          scoped = λ ty L M a b f. moves_scoped L M a f;
          continued = λ ty L M a b f. moves_continued L M a f;
          breaks = λ ty L M a b f. moves_breaks L M a f;
        }
