-- A havoc run with some of a list of invariants follows the run with the whole list. Where that one goes on, passes or
-- violates the property, so does this one. Where that one fails at an invariant that this one has too, this one does too.
use Rattle.std.proofs.Common.{◌≡◌, ℕ, zero, suc, ℤ, pos, Bool, true, false, cond, not, ◌&&◌, List, [], ◌∷◌, length, take, Option, Some, None, slice_get, refl, ap}
use Rattle.c_core.specs.Types.{fit, is_zero, number_of}
use Rattle.c_core.specs.Operators.{apply_of, apply_one_of}
use Rattle.c_core.specs.Tree.{Program, Function}
use Rattle.c_core.specs.declared.number.IntType.{IntType}
use Rattle.c_core.specs.declared.number.Spot.{Spot}
use Rattle.c_core.specs.declared.number.Done.{Done}
use Rattle.c_core.specs.declared.number.Done.TheVariants.{Value, Overflow, Undefined}
use Rattle.c_core.specs.declared.number.Property.{Property}
use Rattle.c_core.specs.declared.number.Property.TheVariants.{UnreachCall, NoOverflow}
use Rattle.c_meaning.specs.declared.run.DrawKind.{DrawKind}
use Rattle.c_meaning.specs.declared.run.DrawKind.TheVariants.{Havoc as AHavocDraw}
use Rattle.c_meaning.specs.declared.run.DutyKind.{DutyKind}
use Rattle.c_meaning.specs.declared.run.DutyKind.TheVariants.{Location, Entry, Kept, Property as AtProperty}
use Rattle.c_meaning.specs.Cells.{Key}
use Rattle.c_meaning.specs.Changed.{changed_by}
use Rattle.c_meaning.specs.Duties.{Placed, duty}
use Rattle.c_meaning.specs.Objects.{type_of_object, size_of_object, columns_of_object}
use Rattle.c_meaning.specs.Meaning.{Where, Site, Loop}
use Rattle.c_meaning.specs.Acts.{Res, Go, Stop, Flow, Next, Broken, Again, Gave, bind, go_on, continuing, held, given}
use Rattle.c_meaning.specs.Acts as acts
use Rattle.c_meaning.specs.Exec.{run_in, run_if, call_of}
use Rattle.c_meaning.specs.Havoc as havoc
use Rattle.c_meaning.specs.Havoc.{Stopped, Passes, Dismisses, Fails, Left, cells_left, with_cells_left, havoc_in}
use Rattle.c_meaning.specs.Related.{Units, Same, Relation, Preserves}
use Rattle.c_meaning.specs.Run.{cell_among, arm_for, first_cells}
use Rattle.c_meaning.specs.Value.{holds}
use Rattle.c_meaning.proofs.Fundamental.{same_values, related_body, related_call, Free, all_fit_params, all_fit}
use Rattle.c_inductive.specs.Inductive.{is_of_invariant}
use Rattle.c_inductive.proofs.Thinned.{thinned}

abbrev Equal : {A : Type 0} → A → A → Type 0
Equal a b = a ≡ b

abbrev pub Result : Type 0 → Type 0
Result A = Res Stopped Left A

abbrev Act : Type 0 → Type 0
Act A = Left → Result A

-- what two results may have in common
abbrev Rel : Type 0 → Type 0 → Type 1
Rel A B = A → B → Type 0

-- with the cells that lived before
abbrev cut : {A : Type 0} → ℕ → Result A → Result A
cut n r = acts.cut Stopped Left cells_left with_cells_left n r

abbrev scoped : {A : Type 0} → Act A → Act A
scoped m = acts.scoped Stopped Left cells_left with_cells_left m

abbrev write : Key → ℤ → Act (Unit {0})
write k v = acts.write Stopped Left cells_left with_cells_left k v

-- the run ends at an obligation of the invariant with this number
abbrev failing : {A : Type 0} → Spot → DutyKind → ℕ → Left → Result A
failing spot kind i s = Stop (Fails (duty spot kind (Some i))) s

-- the run violates the property
abbrev violating : {A : Type 0} → Spot → Left → Result A
violating spot s = Stop (Fails (duty spot AtProperty None)) s

-- q: which invariants the second run has, by their places among those of the first
module _ (q : ℕ → Bool) where
  -- how a part ends in both; where the first is dismissed, or fails at an invariant that the second hasn't, nothing is
  -- said of the second
  pub data Ends {A B : Type 0} (R : Rel A B) : Result A → Result B → Type 0 where
    goes : (a : A) (b : B) (s : Left) → R a b → Ends R (Go a s) (Go b s)
    passes : (s : Left) → Ends R (Stop Passes s) (Stop Passes s)
    violates : (spot : Spot) (s : Left) → Ends R (violating spot s) (violating spot s)
    fails : (spot : Spot) (kind : DutyKind) (i j : ℕ) (s : Left) → is_of_invariant kind ≡ true
        → Ends R (failing spot kind i s) (failing spot kind j s)
    fails_alone : (spot : Spot) (kind : DutyKind) (i : ℕ) (s : Left) (r : Result B) → q i ≡ false
        → Ends R (failing spot kind i s) r
    dismissed : (s : Left) (r : Result B) → Ends R (Stop Dismisses s) r

  -- the second follows the first from every state
  pub record Follows {A B : Type 0} (R : Rel A B) (m : Act A) (n : Act B) : Type 0 where
    pub at : (s : Left) → Ends R (m s) (n s)

  ends_then : {A B C D : Type 0} (R : Rel A B) (Q : Rel C D) (k : A → Act C) (l : B → Act D)
      → ((a : A) (b : B) → R a b → Follows Q (k a) (l b)) → (r : Result A) (r' : Result B) → Ends R r r'
      → Ends Q (bind r k) (bind r' l)
  ends_then R Q k l f _ _ (goes a b s h) = (f a b h).at s
  ends_then R Q k l f _ _ (passes s) = passes s
  ends_then R Q k l f _ _ (violates spot s) = violates spot s
  ends_then R Q k l f _ _ (fails spot kind i j s e) = fails spot kind i j s e
  ends_then R Q k l f _ _ (fails_alone spot kind i s r e) = fails_alone spot kind i s (bind r l) e
  ends_then R Q k l f _ _ (dismissed s r) = dismissed s (bind r l)

  follows_then : {A B C D : Type 0} (R : Rel A B) (Q : Rel C D) (m : Act A) (n : Act B) (k : A → Act C) (l : B → Act D)
      → Follows R m n → ((a : A) (b : B) → R a b → Follows Q (k a) (l b))
      → Follows Q (λ s. bind (m s) k) (λ s. bind (n s) l)
  follows_then R Q m n k l g f = record { at = λ s. ends_then R Q k l f (m s) (n s) (g.at s) }

  follows_cond : {A B : Type 0} (R : Rel A B) (t : Bool) (a b : Act A) (a' b' : Act B) → Follows R a a' → Follows R b b'
      → Follows R (λ s. cond t a b s) (λ s. cond t a' b' s)
  follows_cond R true a b a' b' g h = record { at = λ s. g.at s }
  follows_cond R false a b a' b' g h = record { at = λ s. h.at s }

  cut_ends : {A B : Type 0} (R : Rel A B) (n : ℕ) (r : Result A) (r' : Result B) → Ends R r r'
      → Ends R (cut n r) (cut n r')
  cut_ends R n _ _ (goes a b s h) = goes a b (with_cells_left (take n s.cells) s) h
  cut_ends R n _ _ (passes s) = passes s
  cut_ends R n _ _ (violates spot s) = violates spot s
  cut_ends R n _ _ (fails spot kind i j s e) = fails spot kind i j s e
  cut_ends R n _ _ (fails_alone spot kind i s r e) = fails_alone spot kind i s (cut n r) e
  cut_ends R n _ _ (dismissed s r) = dismissed s (cut n r)

  follows_scoped : {A B : Type 0} (R : Rel A B) (m : Act A) (n : Act B) → Follows R m n
      → Follows R (scoped m) (scoped n)
  follows_scoped R m n g = record { at = λ s. cut_ends R (length s.cells) (m s) (n s) (g.at s) }

  -- I: the invariants of the first run
  module _ (p : Program) (I : List Placed) where
    -- of the second run
    abbrev pub J : List Placed
    J = thinned q 0 I

    -- the same part in both runs, each with its invariants
    abbrev Alike : {A : Type 0} → Rel A A → (List Placed → Act A) → Type 0
    Alike R m = Follows R (m I) (m J)

    follows_ret : {A B : Type 0} (R : Rel A B) (a : A) (b : B) → R a b → Follows R (havoc.ret p I a) (havoc.ret p J b)
    follows_ret R a b h = record { at = λ s. goes a b s h }

    follows_pass : {A : Type 0} (R : Rel A A) → Alike R (λ K. havoc.stop p K {A = A} Passes)
    follows_pass R = record { at = λ s. passes s }

    follows_draw : (kind : DrawKind) (spot : Spot) (ty : IntType) → Alike Equal (λ K. havoc.draw p K kind spot ty)
    follows_draw kind spot ty = record { at = λ s. goes _ _ _ refl }

    follows_key : (o : ℕ) (i : Option ℕ) → Alike Equal (λ K. havoc.key_of p K o i)
    follows_key o None = follows_pass Equal
    follows_key o (Some i) = follows_ret Equal _ _ refl

    follows_write : (k : Key) (v : ℤ) → Follows Units (write k v) (write k v)
    follows_write k v = record { at = λ s. goes _ _ _ tt }

    -- ---- violations of the property

    follows_violated : {A : Type 0} (R : Rel A A) (at : Where) → Alike R (λ K. havoc.violated p K {A = A} at)
    follows_violated R at = record { at = λ s. violates at.full s }

    follows_overflowed : (r : Property) (at : Where) (v : ℤ) → Alike Equal (λ K. havoc.overflowed p K r at v)
    follows_overflowed NoOverflow at v = follows_violated Equal at
    follows_overflowed UnreachCall at v = follows_ret Equal v v refl

    follows_answered : (at : Where) (d : Done) → Alike Equal (λ K. havoc.answered p K at d)
    follows_answered at (Value v) = follows_ret Equal v v refl
    follows_answered at (Overflow v) = follows_overflowed p.property at v
    follows_answered at Undefined = follows_pass Equal

    follows_reached : (r : Property) (at : Where) → Alike Equal (λ K. havoc.reached p K r at)
    follows_reached UnreachCall at = follows_violated Equal at
    follows_reached NoOverflow at = follows_pass Equal

    follows_returned : (site : Site) (v : Option ℤ) → Alike Equal (λ K. havoc.returned p K site v)
    follows_returned site (Some v) = follows_ret Equal v v refl
    follows_returned site None =
        follows_cond Equal site.needed _ _ _ _ (follows_pass Equal) (follows_ret Equal (pos 0) (pos 0) refl)

    -- ---- invariants

    -- it stands there, and doesn't hold
    abbrev broken : Bool → Spot → Placed → Left → Bool
    broken at_loop spot x s = havoc.stands p I at_loop spot x && not (holds p x.test s.cells)

    module _ (at_loop : Bool) (spot : Spot) (kind : DutyKind) (of_invariant : is_of_invariant kind ≡ true) where
      abbrev Tested : ℕ → ℕ → List Placed → List Placed → Type 0
      Tested i j xs ys =
          Follows Units (havoc.test_from p I i xs at_loop spot kind) (havoc.test_from p J j ys at_loop spot kind)

      -- one that both test
      both_test : (b : Bool) (i j : ℕ) (s : Left) (r r' : Result (Unit {0})) → Ends Units r r'
          → Ends Units (cond b (failing spot kind i s) r) (cond b (failing spot kind j s) r')
      both_test true i j s r r' h = fails spot kind i j s of_invariant
      both_test false i j s r r' h = h

      -- one that the first alone tests
      one_tests : (b : Bool) (i : ℕ) (s : Left) (r r' : Result (Unit {0})) → q i ≡ false → Ends Units r r'
          → Ends Units (cond b (failing spot kind i s) r) r'
      one_tests true i s r r' e h = fails_alone spot kind i s r' e
      one_tests false i s r r' e h = h

      follows_tests : (i j : ℕ) (xs : List Placed) → Tested i j xs (thinned q i xs)
      follows_tests i j [] = follows_ret Units tt tt tt
      follows_tests i j (x ∷ xs) = by (q i) refl (follows_tests (suc i) (suc j) xs) (follows_tests (suc i) j xs)
        where
          by : (b : Bool) → q i ≡ b → Tested (suc i) (suc j) xs (thinned q (suc i) xs)
              → Tested (suc i) j xs (thinned q (suc i) xs)
              → Tested i j (x ∷ xs) (cond b (x ∷ thinned q (suc i) xs) (thinned q (suc i) xs))
          by true e g h = record { at = λ s. both_test (broken at_loop spot x s) i j s _ _ (g.at s) }
          by false e g h = record { at = λ s. one_tests (broken at_loop spot x s) i s _ _ e (h.at s) }

    abbrev Assumed : List Placed → List Placed → Spot → Type 0
    Assumed xs ys spot = Follows Units (havoc.assume_all p I xs spot) (havoc.assume_all p J ys spot)

    both_assume : (b : Bool) (s : Left) (r r' : Result (Unit {0})) → Ends Units r r'
        → Ends Units (cond b (Stop Dismisses s) r) (cond b (Stop Dismisses s) r')
    both_assume true s r r' h = dismissed s _
    both_assume false s r r' h = h

    one_assumes : (b : Bool) (s : Left) (r r' : Result (Unit {0})) → Ends Units r r'
        → Ends Units (cond b (Stop Dismisses s) r) r'
    one_assumes true s r r' h = dismissed s _
    one_assumes false s r r' h = h

    follows_assumed : (i : ℕ) (xs : List Placed) (spot : Spot) → Assumed xs (thinned q i xs) spot
    follows_assumed i [] spot = follows_ret Units tt tt tt
    follows_assumed i (x ∷ xs) spot = by (q i) (follows_assumed (suc i) xs spot)
      where
        by : (b : Bool) → Assumed xs (thinned q (suc i) xs) spot
            → Assumed (x ∷ xs) (cond b (x ∷ thinned q (suc i) xs) (thinned q (suc i) xs)) spot
        by true h = record { at = λ s. both_assume (broken true spot x s) s _ _ (h.at s) }
        by false h = record { at = λ s. one_assumes (broken true spot x s) s _ _ (h.at s) }

    follows_here : (spot : Spot) → Alike Units (λ K. havoc.test_from p K 0 K false spot Location)
    follows_here spot = follows_tests false spot Location refl 0 0 I

    -- ---- loops

    -- a cell is written, then the rest
    follows_put : (k : Key) (v w : ℤ) → v ≡ w → (m n : Act (Unit {0})) → Follows Units m n
        → Follows Units (λ s. bind (write k v s) (λ _. m)) (λ s. bind (write k w s) (λ _. n))
    follows_put k v w e m n h =
        rw e (follows_then Units Units (write k w) (write k w) _ _ (follows_write k w) (λ _ _ _. h))

    follows_cells : (spot : Spot) (o i n : ℕ) → Alike Units (λ K. havoc.redraw_cells p K spot o i n)
    follows_cells spot o i zero = follows_ret Units tt tt tt
    follows_cells spot o i (suc n) =
        let ty : IntType = type_of_object p o in
        let cell : Key = record { object = o; index = i } in
        follows_then Equal Units (havoc.draw p I AHavocDraw spot ty) (havoc.draw p J AHavocDraw spot ty) _ _
        (follows_draw AHavocDraw spot ty) (λ v w e. follows_put cell v w e _ _ (follows_cells spot o (suc i) n))

    follows_redrawn : (spot : Spot) (os : List ℕ) → Alike Units (λ K. havoc.redraw p K spot os)
    follows_redrawn spot [] = follows_ret Units tt tt tt
    follows_redrawn spot (o ∷ os) =
        let n : ℕ = size_of_object p o in
        follows_then Units Units (havoc.redraw_cells p I spot o 0 n) (havoc.redraw_cells p J spot o 0 n) _ _
        (follows_cells spot o 0 n) (λ _ _ _. follows_redrawn spot os)

    abbrev tested : List Placed → Spot → DutyKind → Act (Unit {0})
    tested K spot kind = havoc.test_from p K 0 K true spot kind

    follows_closed : (spot : Spot) (f : Flow) → Alike Equal (λ K. havoc.close p K spot f)
    follows_closed spot Next =
        follows_then Units Equal (tested I spot Kept) (tested J spot Kept) _ _ (follows_tests true spot Kept refl 0 0 I)
        (λ _ _ _. follows_pass Equal)
    follows_closed spot Broken = follows_ret Equal Next Next refl
    follows_closed spot Again = follows_ret Equal Again Again refl
    follows_closed spot (Gave v) = follows_ret Equal (Gave v) (Gave v) refl

    follows_loop : (spot : Spot) (l : Loop) (m n : Act Flow) → Follows Equal m n
        → Follows Equal (havoc.loop p I spot l m) (havoc.loop p J spot l n)
    follows_loop spot l m n g =
        let os : List ℕ = changed_by p l in
        follows_then Units Equal (tested I spot Entry) (tested J spot Entry) _ _
        (follows_tests true spot Entry refl 0 0 I) (λ _ _ _.
        follows_then Units Equal (havoc.redraw p I spot os) (havoc.redraw p J spot os) _ _
        (follows_redrawn spot os) (λ _ _ _.
        follows_then Units Equal (havoc.assume_all p I I spot) (havoc.assume_all p J J spot) _ _
        (follows_assumed 0 I spot) (λ _ _ _.
        follows_then Equal Equal m n (havoc.close p I spot) (havoc.close p J spot) g
        (λ f f' e. rw e (follows_closed spot f')))))

    -- ---- the traversal

    follows_go_on : (k l : Act Flow) → Follows Equal k l → (f : Flow) → Follows Equal (go_on k f) (go_on l f)
    follows_go_on k l g Next = record { at = λ s. g.at s }
    follows_go_on k l g Broken = follows_ret Equal Broken Broken refl
    follows_go_on k l g Again = follows_ret Equal Again Again refl
    follows_go_on k l g (Gave v) = follows_ret Equal (Gave v) (Gave v) refl

    -- a call of a function's body
    abbrev done : List Placed → Site → Act Flow → Act ℤ
    done K site m = λ s. bind (scoped m s) (λ f. havoc.returned p K site (given f))

    follows_called : (site : Site) (m n : Act Flow) → Follows Equal m n → Follows Equal (done I site m) (done J site n)
    follows_called site m n g =
        follows_then Equal Equal (scoped m) (scoped n) _ _ (follows_scoped Equal m n g)
        (λ f f' e. rw e (follows_returned site (given f')))

    following : Relation (havoc.havoc p I) (havoc.havoc p J)
    following = record {
      Scope = Unit {0};
      more = λ L o. L;
      Entry = λ L. Unit {0};
      Values = λ ty v w. v ≡ w;
      Truths = λ t u. t ≡ u;
      Targets = λ o x y. x ≡ y;
      Acts = λ L R m n. Follows R m n;
      Dones = λ ty L M a b. Follows Equal a b;
      Agree = λ a b. Unit {0};
      IsConst = λ ty v. Unit {0};
      HasCell = λ o i. Unit {0};
      HasSize = λ o n. Unit {0};
      MayRead = λ L o. Unit {0};
      MayWrite = λ L o. Unit {0};
      MayCall = λ f. Unit {0};
      MayLoop = λ L at l. Unit {0};
    }

    following_keeps : Preserves p following
    unfolding following
    following_keeps = record {
      ret = λ L R a b h. follows_ret R a b h;
      bind = λ L R Q m n k l g f. follows_then R Q m n k l g f;
      using = λ ty L M R m n k l g f. follows_then R Equal m n k l g f;
      tick = λ L t. follows_ret Units tt tt tt;
      room = λ L n. follows_ret Units tt tt tt;
      retype = λ a b v w _ h. h;
      retyped = λ L a b m n _ h. h;
      const = λ ty v _. refl;
      digit = λ b. refl;
      convert = λ L from to v w h. follows_ret Equal _ _ (ap (fit p.model to) h);
      test = λ L ty v w h. follows_ret Equal _ _ (ap (λ x. not (is_zero x)) h);
      truth = λ t u h. ap number_of h;
      draw = λ L kind spot ty. follows_draw kind spot ty;
      cell = λ o i _. refl;
      element = λ L spot o vs ws h.
          rw (same_values vs ws h) (follows_key o (cell_among (size_of_object p o) (columns_of_object p o) ws));
      look = λ L o x y _ h. rw h (record { at = λ s. goes _ _ _ refl });
      write = λ L o x y v w m t h. rw (t, h) (follows_write y w);
      answer = λ L at spot op ty x x' right y y' g h. rw (g, h) (follows_answered at (apply_of p.model op ty x' y'));
      answer_one = λ L at spot op ty x x' h. rw h (follows_answered at (apply_one_of p.model op ty x'));
      choose = λ ty L t u a a' b b' e g h. rw e (follows_cond Equal u a b a' b' g h);
      pick = λ ty L mark t u a a' b b' e g h. rw e (follows_cond Equal u a b a' b' g h);
      enter = λ L site. follows_ret Units tt tt tt;
      came_back = λ L site ty v w h. follows_ret Units tt tt tt;
      reach = λ L at site. follows_reached p.property at;
      ending = λ L. follows_pass Equal;
      called = λ ty L site a b end g. follows_called site a b (g tt tt);
      missing = λ L. follows_pass Equal;
      here = λ L at. follows_here at;
      declare = λ ty L o n _. record { at = λ s. goes _ _ _ refl };
      own = λ L o. tt;
      branch = λ ty L M at t u a a' b b' e g h. rw e (follows_cond Equal u a b a' b' g h);
      select = λ L at ty v w ls h. rw h (follows_ret Same (arm_for w ls) (arm_for w ls) refl);
      next = λ ty L. follows_ret Equal Next Next refl;
      leave = λ ty L. follows_ret Equal Broken Broken refl;
      again = λ ty L. follows_ret Equal Again Again refl;
      give = λ ty L v w h. follows_ret Equal _ _ (ap (λ x. Gave (Some x)) h);
      give_none = λ ty L h. follows_ret Equal _ _ refl;
      seq = λ ty L M N a a' b b' g h.
          follows_then Equal Equal a a' (go_on b) (go_on b') g (λ f f' e. rw e (follows_go_on b b' h f'));
      scoped = λ ty L M a b g. follows_scoped Equal a b g;
      continued = λ ty L M a b g.
          follows_then Equal Equal _ _ _ _ (follows_scoped Equal a b g)
          (λ x y e. follows_ret Equal _ _ (ap continuing e));
      breaks = λ ty L M a b g.
          follows_then Equal Equal _ _ _ _ (follows_scoped Equal a b g) (λ x y e. follows_ret Equal _ _ (ap held e));
    }

    free : Free following
    unfolding following
    free = record {
      agree = λ a b. tt;
      const = λ ty v. tt;
      cell = λ o i. tt;
      size = λ o n. tt;
      read = λ L o. tt;
      write = λ L o. tt;
      call = λ f. tt;
      loop = λ L at l. tt;
    }

    -- ---- runs

    abbrev run : List Placed → ℕ → Function → Act Flow
    run K n f = run_in p (havoc.havoc p K) n f

    abbrev call : List Placed → ℕ → Site → ℕ → List (ℤ × IntType) → Act ℤ
    call K n site g vs = call_of p (havoc.havoc p K) (run K n) site (slice_get p.functions g) vs

    -- with calls at most so deep
    follows_run : (n : ℕ) (f : Function) → Alike Equal (λ K. run K n f)
    unfolding following
    follows_run zero f = follows_pass Equal
    follows_run (suc n) f =
        related_body p following following_keeps (call I n) (call J n)
        (λ L site g vs ws may h.
        related_call p following following_keeps (run I n) (run J n) site (slice_get p.functions g)
        (λ fn e. (all_fit_params p following free fn.params, λ E z. follows_run n fn)) L vs ws h)
        (λ L at result l may g. follows_scoped Equal _ _ (follows_loop at l _ _ g))
        f.result tt f.body (all_fit p following free f.result tt f.body)

    follows_if : (n : ℕ) (f : Option Function) → Alike Equal (λ K. run_if p (havoc.havoc p K) n f)
    follows_if n None = follows_ret Equal Next Next refl
    follows_if n (Some f) = follows_run n f

    pub runs_end : (n : ℕ) (w : List ℤ) → Ends Equal (havoc_in p I n w) (havoc_in p J n w)
    runs_end n w =
        (follows_if n (slice_get p.functions p.main)).at (record { cells = first_cells p; values = w; draws = [] })
