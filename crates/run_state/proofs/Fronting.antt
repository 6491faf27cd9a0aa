-- Whatever was seen on the way of a run is a front of what is told of it.
use Rattle.std.proofs.Common.{◌≡◌, ◌∙◌, ap, refl, sym, subst, ℕ, zero, suc, ℤ, pos, Bool, true, false, cond, not, List, [], ◌∷◌, ◌++◌, length, take, reverse, Option, Some, None, slice_get, nat_le, ◌+◌}
use Rattle.std.proofs.lemmas.List.{append_assoc, reverse-append}
use Rattle.c_core.specs.Tree.{Program, Function}
use Rattle.c_core.specs.Types.{fit, is_zero, number_of}
use Rattle.c_core.specs.Operators.{apply_of, apply_one_of}
use Rattle.c_core.specs.declared.number.Spot.{Spot}
use Rattle.c_core.specs.declared.number.Done.{Done}
use Rattle.c_core.specs.declared.tree.Label.{Label as ArmLabel}
use Rattle.c_core.specs.declared.number.Done.TheVariants.{Value, Overflow, Undefined as NoValue}
use Rattle.c_core.specs.declared.number.Property.{Property}
use Rattle.c_core.specs.declared.number.Property.TheVariants.{UnreachCall, NoOverflow}
use Rattle.c_meaning.specs.declared.run.End.{End}
use Rattle.c_meaning.specs.declared.run.End.TheVariants.{Undefined, Deep, Spent}
use Rattle.c_meaning.specs.declared.run.Event.{Event}
use Rattle.c_meaning.specs.declared.run.Event.TheVariants.{At, Branch, Enter, Return, Fail}
use Rattle.c_meaning.specs.declared.run.Way.TheVariants.{Truth}
use Rattle.c_meaning.specs.declared.run.Choices.{Choices}
use Rattle.c_meaning.specs.Cells.{Cell}
use Rattle.c_meaning.specs.Objects.{size_of_object, columns_of_object}
use Rattle.c_meaning.specs.Meaning.{Where, Site, Loop}
use Rattle.c_meaning.specs.Acts.{Res, Go, Stop, Flow, Next, Broken, Again, Gave, bind, continuing, held, given}
use Rattle.c_meaning.specs.Acts as acts
use Rattle.c_meaning.specs.Run as run
use Rattle.c_meaning.specs.Run.{State, Moment, Told, Here, Head, real, cell_among, way_for, cells_of, with_cells, state_of}
use Rattle.c_meaning.specs.Exec.{run_in, run_if, run_main, call_of}
use Rattle.c_meaning.specs.Related.{Units, Same, Relation, Preserves}
use Rattle.c_meaning.proofs.Fundamental.{same_values, Free, all_fit, all_fit_params, related_body, related_call}
use Rattle.c_meaning.specs.Watching.{seen_by, seen_after}
use Rattle.run_state.specs.Fronts.{SawFront}
use Rattle.run_state.specs.Ways as w
use Rattle.run_state.specs.Ways.{Ran, bound, way_behind, IsOn, here, further, ways}

is_on_one : {S : Type 0} (P : Type 0) (x : S) (xs ys : List S) → (IsOn x xs → P) → (IsOn x ys → P) → IsOn x (xs ++ ys) → P
is_on_one P x [] ys f g h = g h
is_on_one P x (_ ∷ xs) ys f g (here _) = f (here xs)
is_on_one P x (y ∷ xs) ys f g (further _ _ h) = is_on_one P x xs ys (λ o. f (further y xs o)) g h

module _ (p : Program) (S : Type 0) (see : Moment → S → S) (h : List Moment → S) (follows : (x : Moment) (xs : List Moment) → h (x ∷ xs) ≡ see x (h xs)) where
  abbrev pub T : Type 0
  T = List Moment

  abbrev pub keep : Moment → T → T
  keep x xs = x ∷ xs

  abbrev pub mapped : State T → State S
  mapped s = record { steps = s.steps; cells = s.cells; active = s.active; choices = s.choices; draws = s.draws; unfixed = s.unfixed; seen = h s.seen }

  -- a list that goes on, the last first
  abbrev pub Longer : T → T → Type 0
  Longer xs ys = (ms : T) × (ys ≡ ms ++ xs)

  longer_on : (xs ys zs : T) → Longer xs ys → Longer ys zs → Longer xs zs
  longer_on xs ys zs g k = (k.0 ++ g.0, k.1 ∙ ap (λ l. k.0 ++ l) g.1 ∙ sym (append_assoc k.0 g.0 xs))

  -- seen after some of the moments
  abbrev pub IsFront : S → T → Type 0
  IsFront x ys = (xs : T) × Longer xs ys × (h xs ≡ x)

  front_on : (x : S) (ys zs : T) → IsFront x ys → Longer ys zs → IsFront x zs
  front_on x ys zs f g = (f.0, longer_on f.0 ys zs f.1 g, f.2)

  abbrev pub Alike : {A B : Type 0} → (A → B → Type 0) → Res End (State T) A → Res End (State S) B → Type 0
  Alike R (Go a s) (Go b t) = R a b × (mapped s ≡ t)
  Alike R (Go a s) (Stop e t) = ⊥
  Alike R (Stop e s) (Go b t) = ⊥
  Alike R (Stop e s) (Stop f t) = (e ≡ f) × (mapped s ≡ t)

  pub record Goes {A B : Type 0} (R : A → B → Type 0) (s : State T) (r : Res End (State T) A) (q : Ran S B) : Type 0 where
    pub alike : Alike R r q.result
    pub more : Longer s.seen (state_of r).seen
    pub fronts : (x : S) → IsOn x q.way → IsFront x (state_of r).seen

  pub record Paced {A B : Type 0} (R : A → B → Type 0) (m : State T → Res End (State T) A) (n : State S → Ran S B) : Type 0 where
    pub at : (s : State T) → Goes R s (m s) (n (mapped s))

  abbrev pub Equal : {A : Type 0} → A → A → Type 0
  Equal a b = a ≡ b

  no_way : {A : Type 0} (x : S) → IsOn x [] → A
  no_way x o = elim o [ ]

  stays : (s : State T) → Longer s.seen s.seen
  stays s = ([], refl)

  quiet_goes : {A B : Type 0} (R : A → B → Type 0) (s : State T) (r : Res End (State T) A) (q : Res End (State S) B) → Alike R r q → Longer s.seen (state_of r).seen → Goes R s r (record { result = q; way = [] })
  quiet_goes R s r q a m = record { alike = a; more = m; fronts = λ x o. no_way x o }

  start_front : (s : State T) (ys : T) → Longer s.seen ys → (x : S) → IsOn x (h s.seen ∷ []) → IsFront x ys
  start_front s ys m _ (here _) = (s.seen, m, refl)
  start_front s ys m x (further _ _ o) = no_way x o

  wanting_goes : {A B : Type 0} (R : A → B → Type 0) (s : State T) (r : Res End (State T) A) (q : Res End (State S) B) → Alike R r q → Longer s.seen (state_of r).seen → Goes R s r (record { result = q; way = h s.seen ∷ [] })
  wanting_goes R s r q a m = record { alike = a; more = m; fronts = λ x o. start_front s (state_of r).seen m x o }

  goes_then : {A B C D : Type 0} (R : A → B → Type 0) (Q : C → D → Type 0) (k : A → State T → Res End (State T) C) (l : B → State S → Ran S D) → ((a : A) (b : B) → R a b → Paced Q (k a) (l b))
      → (s : State T) (r : Res End (State T) A) (q : Res End (State S) B) (way : List S) → Goes R s r (record { result = q; way = way }) → Goes Q s (bind r k) (bound (record { result = q; way = way }) l)
  goes_then R Q k l f s (Go a t) (Go b u) way g = subst (λ v. Goes Q s (k a t) (record { result = (l b v).result; way = way ++ (l b v).way })) g.alike.1 (on ((f a b g.alike.0).at t))
    where
      on : Goes Q t (k a t) (l b (mapped t)) → Goes Q s (k a t) (record { result = (l b (mapped t)).result; way = way ++ (l b (mapped t)).way })
      on o = record {
        alike = o.alike;
        more = longer_on s.seen t.seen (state_of (k a t)).seen g.more o.more;
        fronts = λ x i. is_on_one (IsFront x (state_of (k a t)).seen) x way (l b (mapped t)).way (λ j. front_on x t.seen (state_of (k a t)).seen (g.fronts x j) o.more) (λ j. o.fronts x j) i;
      }
  goes_then R Q k l f s (Go a t) (Stop e u) way g = absurd g.alike
  goes_then R Q k l f s (Stop e t) (Go b u) way g = absurd g.alike
  goes_then R Q k l f s (Stop e t) (Stop d u) way g = record {
    alike = g.alike;
    more = g.more;
    fronts = λ x i. is_on_one (IsFront x t.seen) x way [] (λ j. g.fronts x j) (λ j. no_way x j) i;
  }

  paced_then : {A B C D : Type 0} (R : A → B → Type 0) (Q : C → D → Type 0) (m : State T → Res End (State T) A) (n : State S → Ran S B) (k : A → State T → Res End (State T) C) (l : B → State S → Ran S D)
      → Paced R m n → ((a : A) (b : B) → R a b → Paced Q (k a) (l b)) → Paced Q (λ s. bind (m s) k) (λ s. bound (n s) l)
  paced_then R Q m n k l g f = record { at = λ s. goes_then R Q k l f s (m s) (n (mapped s)).result (n (mapped s)).way (g.at s) }

  -- a state in which this is seen
  sees : (s : State T) (xs : T) (y : S) → h xs ≡ y → mapped (record s { seen = xs }) ≡ record (mapped s) { seen = y }
  sees s xs y e = ap (λ u. record { steps = s.steps; cells = s.cells; active = s.active; choices = s.choices; draws = s.draws; unfixed = s.unfixed; seen = u }) e

  noted : (s : State T) (x : Moment) → mapped (record s { seen = x ∷ s.seen }) ≡ record (mapped s) { seen = see x (h s.seen) }
  noted s x = sees s (x ∷ s.seen) (see x (h s.seen)) (follows x s.seen)

  one : (s : State T) (x : Moment) → Longer s.seen (x ∷ s.seen)
  one s x = (x ∷ [], refl)

  paced_ret : {A B : Type 0} (R : A → B → Type 0) (a : A) (b : B) → R a b → Paced R (λ s. Go a s) (w.quiet p S see (λ s. Go b s))
  paced_ret R a b q = record { at = λ s. quiet_goes R s _ _ (q, refl) (stays s) }

  paced_stop : {A B : Type 0} (R : A → B → Type 0) (e : End) → Paced {A = A} {B = B} R (λ s. Stop e s) (w.quiet p S see (λ s. Stop e s))
  paced_stop R e = record { at = λ s. quiet_goes R s _ _ (refl, refl) (stays s) }

  paced_tell : (e : Event) → Paced Units (run.tell p T keep e) (w.wanting p S see (run.tell p S see e))
  paced_tell e = record { at = λ s. wanting_goes Units s _ _ (tt, noted s (Told e s.cells)) (one s (Told e s.cells)) }

  paced_head : (f : List Cell → Moment) → Paced Units (λ s. run.note p T keep (f s.cells) s) (λ s. w.quiet p S see (run.note p S see (f s.cells)) s)
  paced_head f = record { at = λ s. quiet_goes Units s _ _ (tt, noted s (f s.cells)) (one s (f s.cells)) }

  paced_here : (spot : Spot) → Paced Units (λ s. bind (run.note p T keep (Here spot s.cells) s) (λ _. run.tell p T keep (At spot))) (w.wanting p S see (λ s. bind (run.note p S see (Here spot s.cells) s) (λ _. run.tell p S see (At spot))))
  paced_here spot = record {
    at = λ s.
        let x = Here spot s.cells in
        let y = Told (At spot) s.cells in
        wanting_goes Units s _ _ (tt, sees s (y ∷ x ∷ s.seen) (see y (see x (h s.seen))) (follows y (x ∷ s.seen) ∙ ap (see y) (follows x s.seen))) (y ∷ x ∷ [], refl);
  }

  ticks_alike : (n : ℕ) (s : State T) → Alike Units (run.tick_from p T keep n s) (run.tick_from p S see n (mapped s)) × Longer s.seen (state_of (run.tick_from p T keep n s)).seen
  ticks_alike zero s = ((refl, refl), stays s)
  ticks_alike (suc n) s = ((tt, refl), stays s)

  room_alike : (b : Bool) (s : State T) → Alike Units (cond b (Go tt s) (Stop Deep s)) (cond b (Go tt (mapped s)) (Stop Deep (mapped s))) × Longer s.seen (state_of (cond {A = Res End (State T) (Unit {0})} b (Go tt s) (Stop Deep s))).seen
  room_alike true s = ((tt, refl), stays s)
  room_alike false s = ((refl, refl), stays s)

  paced_key : (spot : Spot) (o : ℕ) (i : Option ℕ) → Paced Equal (run.key_of p T keep spot o i) (w.quiet p S see (run.key_of p S see spot o i))
  paced_key spot o None = record { at = λ s. quiet_goes Equal s _ _ (refl, refl) (stays s) }
  paced_key spot o (Some i) = record { at = λ s. quiet_goes Equal s _ _ (refl, refl) (stays s) }

  paced_violated : (at : Where) (spot : Spot) (call : Option Spot) → Paced {A = ℤ} {B = ℤ} Equal (run.violated p T keep at spot call) (w.wanting p S see (run.violated p S see at spot call))
  paced_violated at spot call = record { at = λ s. let x = Told (Fail at.statement at.full call) s.cells in wanting_goes Equal s _ _ (refl, noted s x) (one s x) }

  paced_overflowed : (q : Property) (at : Where) (spot : Spot) (v : ℤ) → Paced Equal (run.overflowed p T keep q at spot v) (w.wanting p S see (run.overflowed p S see q at spot v))
  paced_overflowed NoOverflow at spot v = paced_violated at spot None
  paced_overflowed UnreachCall at spot v = record { at = λ s. wanting_goes Equal s _ _ (refl, refl) (stays s) }

  paced_answered : (at : Where) (spot : Spot) (d : Done) → Paced Equal (run.answered p T keep at spot d) (w.wanting p S see (run.answered p S see at spot d))
  paced_answered at spot (Value v) = record { at = λ s. wanting_goes Equal s _ _ (refl, refl) (stays s) }
  paced_answered at spot (Overflow v) = paced_overflowed p.property at spot v
  paced_answered at spot NoValue = record { at = λ s. wanting_goes Equal s _ _ (refl, refl) (stays s) }

  paced_reached : (q : Property) (at : Where) (site : Site) → Paced Equal (run.reached p T keep q at site) (w.wanting p S see (run.reached p S see q at site))
  paced_reached UnreachCall at site = paced_violated at site.spot (Some site.spot)
  paced_reached NoOverflow at site = record { at = λ s. wanting_goes Equal s _ _ (refl, refl) (stays s) }

  paced_either : {A B : Type 0} (R : A → B → Type 0) (t : Bool) (a b : State T → Res End (State T) A) (c d : State S → Ran S B) → Paced R a c → Paced R b d → Paced R (λ s. cond t a b s) (w.either p S see t c d)
  paced_either R true a b c d f g = record { at = λ s. f.at s }
  paced_either R false a b c d f g = record { at = λ s. g.at s }

  paced_branched : {A B : Type 0} (R : A → B → Type 0) (spot : Spot) (t : Bool) (a b : State T → Res End (State T) A) (c d : State S → Ran S B) → Paced R a c → Paced R b d → Paced R (run.branched p T keep spot t a b) (w.branched p S see spot t c d)
  paced_branched R spot t a b c d f g = paced_then Units R (run.tell p T keep (Branch spot (Truth t))) (w.wanting p S see (run.tell p S see (Branch spot (Truth t)))) (λ _ s. cond t a b s) (λ _. w.either p S see t c d) (paced_tell (Branch spot (Truth t))) (λ _ _ _. paced_either R t a b c d f g)

  paced_selected : (spot : Spot) (v : ℤ) (ls : List ArmLabel) → Paced Same (run.selected p T keep spot v ls) (w.wanting p S see (run.selected p S see spot v ls))
  paced_selected spot v ls = record { at = λ s. let x = Told (Branch spot (way_for v ls)) s.cells in wanting_goes Same s _ _ (refl, noted s x) (one s x) }

  returned_none : (b : Bool) (spot : Spot) (s : State T) (x : Moment) → Goes {A = ℤ} {B = ℤ} Equal s (cond b (run.stop p T keep (Undefined spot)) (run.ret p T keep (pos 0)) (record s { seen = x ∷ s.seen }))
      (record { result = cond b (run.stop p S see (Undefined spot)) (run.ret p S see (pos 0)) (record (mapped s) { seen = see x (h s.seen) }); way = h s.seen ∷ [] })
  returned_none true spot s x = wanting_goes Equal s _ _ (refl, noted s x) (one s x)
  returned_none false spot s x = wanting_goes Equal s _ _ (refl, noted s x) (one s x)

  paced_returned : (site : Site) (v : Option ℤ) → Paced Equal (run.returned p T keep site v) (w.wanting p S see (run.returned p S see site v))
  paced_returned site (Some v) = record { at = λ s. let x = Told (Return site.close (Some v)) s.cells in wanting_goes Equal s _ _ (refl, noted s x) (one s x) }
  paced_returned site None = record { at = λ s. returned_none site.needed site.spot s (Told (Return site.close None) s.cells) }

  cut_goes : {A B : Type 0} (R : A → B → Type 0) (n : ℕ) (s : State T) (r : Res End (State T) A) (q : Res End (State S) B) (way : List S) → Goes R s r (record { result = q; way = way })
      → Goes R s (acts.cut End (State T) cells_of with_cells n r) (record { result = acts.cut End (State S) cells_of with_cells n q; way = way })
  cut_goes R n s (Go a t) (Go b u) way g = record { alike = (g.alike.0, ap (λ v. with_cells (take n (cells_of v)) v) g.alike.1); more = g.more; fronts = g.fronts }
  cut_goes R n s (Go a t) (Stop e u) way g = absurd g.alike
  cut_goes R n s (Stop e t) (Go b u) way g = absurd g.alike
  cut_goes R n s (Stop e t) (Stop d u) way g = record { alike = g.alike; more = g.more; fronts = g.fronts }

  paced_scoped : {A B : Type 0} (R : A → B → Type 0) (m : State T → Res End (State T) A) (n : State S → Ran S B) → Paced R m n → Paced R (acts.scoped End (State T) cells_of with_cells m) (w.scoped p S see n)
  paced_scoped R m n f = record { at = λ s. cut_goes R (length s.cells) s (m s) (n (mapped s)).result (n (mapped s)).way (f.at s) }

  paced_go_on : (k : State T → Res End (State T) Flow) (l : State S → Ran S Flow) → Paced Equal k l → (f : Flow) → Paced Equal (acts.go_on k f) (w.go_on p S see l f)
  paced_go_on k l g Next = record { at = λ s. g.at s }
  paced_go_on k l g Broken = paced_ret Equal Broken Broken refl
  paced_go_on k l g Again = paced_ret Equal Again Again refl
  paced_go_on k l g (Gave v) = paced_ret Equal (Gave v) (Gave v) refl

  paced_turned : (k : State T → Res End (State T) Flow) (l : State S → Ran S Flow) → Paced Equal k l → (f : Flow) → Paced Equal (acts.turned k f) (w.turned p S see l f)
  paced_turned k l g Next = record { at = λ s. g.at s }
  paced_turned k l g Broken = paced_ret Equal Next Next refl
  paced_turned k l g Again = paced_ret Equal Again Again refl
  paced_turned k l g (Gave v) = paced_ret Equal (Gave v) (Gave v) refl

  paced_seq : (a k : State T → Res End (State T) Flow) (b l : State S → Ran S Flow) → Paced Equal a b → Paced Equal k l → Paced Equal (λ s. bind (a s) (acts.go_on k)) (λ s. bound (b s) (w.go_on p S see l))
  paced_seq a k b l f g = paced_then Equal Equal a b (acts.go_on k) (w.go_on p S see l) f (λ x y e. subst (λ z. Paced Equal (acts.go_on k x) (w.go_on p S see l z)) e (paced_go_on k l g x))

  paced_turns : (n : ℕ) (at : Spot) (l : Loop) (arrived : List Cell) (m : State T → Res End (State T) Flow) (k : State S → Ran S Flow) → Paced Equal m k → Paced Equal (run.turns p T keep n at l arrived m) (w.turns p S see n at l arrived k)
  paced_turns zero at l arrived m k f = paced_stop Equal Spent
  paced_turns (suc n) at l arrived m k f =
      paced_then Units Equal (λ s. run.note p T keep (Head at l arrived s.cells) s) (λ s. w.quiet p S see (run.note p S see (Head at l arrived s.cells)) s)
      (λ _ s. bind (m s) (acts.turned (run.turns p T keep n at l arrived m))) (λ _ s. bound (k s) (w.turned p S see (w.turns p S see n at l arrived k))) (paced_head (Head at l arrived)) (λ _ _ _.
      paced_then Equal Equal m k (acts.turned (run.turns p T keep n at l arrived m)) (w.turned p S see (w.turns p S see n at l arrived k)) f (λ x y e.
      subst (λ z. Paced Equal (acts.turned (run.turns p T keep n at l arrived m) x) (w.turned p S see (w.turns p S see n at l arrived k) z)) e (paced_turned _ _ (paced_turns n at l arrived m k f) x)))

  paced_loop : (at : Spot) (l : Loop) (m : State T → Res End (State T) Flow) (k : State S → Ran S Flow) → Paced Equal m k → Paced Equal (run.loop p T keep at l m) (w.loop p S see at l k)
  paced_loop at l m k f = record { at = λ s. (paced_turns (suc s.steps) at l s.cells m k f).at s }

  paced_called : (site : Site) (a : State T → Res End (State T) Flow) (b : State S → Ran S Flow) → Paced Equal a b → Paced Equal (run.called p T keep site a) (w.called p S see site b)
  paced_called site a b f =
      paced_then Units Equal (run.deeper p T keep) (w.wanting p S see (run.deeper p S see))
      (λ _ s. bind (acts.scoped End (State T) cells_of with_cells a s) (λ flow s. bind (run.shallower p T keep s) (λ _. run.returned p T keep site (given flow))))
      (λ _ t. bound (w.scoped p S see b t) (λ flow u. bound (w.quiet p S see (run.shallower p S see) u) (λ _. w.wanting p S see (run.returned p S see site (given flow)))))
      (record { at = λ s. wanting_goes Units s _ _ (tt, refl) (stays s) }) (λ _ _ _.
      paced_then Equal Equal (acts.scoped End (State T) cells_of with_cells a) (w.scoped p S see b)
      (λ flow s. bind (run.shallower p T keep s) (λ _. run.returned p T keep site (given flow)))
      (λ flow u. bound (w.quiet p S see (run.shallower p S see) u) (λ _. w.wanting p S see (run.returned p S see site (given flow))))
      (paced_scoped Equal a b f) (λ x y e.
      paced_then Units Equal (run.shallower p T keep) (w.quiet p S see (run.shallower p S see)) (λ _. run.returned p T keep site (given x)) (λ _. w.wanting p S see (run.returned p S see site (given y)))
      (record { at = λ s. quiet_goes Units s _ _ (tt, refl) (stays s) }) (λ _ _ _.
      subst (λ z. Paced Equal (run.returned p T keep site (given x)) (w.wanting p S see (run.returned p S see site (given z)))) e (paced_returned site (given x)))))

  pub paced : Relation (real p T keep) (ways p S see)
  paced = record {
    Scope = Unit {0};
    more = λ L o. L;
    Entry = λ L. Unit {0};
    Values = λ ty v u. v ≡ u;
    Truths = λ t u. t ≡ u;
    Targets = λ o x y. x ≡ y;
    Acts = λ L R m n. Paced R m n;
    Dones = λ ty L M a b. Paced Equal a b;
    Agree = λ a b. Unit {0};
    IsConst = λ ty v. Unit {0};
    HasCell = λ o i. Unit {0};
    HasSize = λ o n. Unit {0};
    MayRead = λ L o. Unit {0};
    MayWrite = λ L o. Unit {0};
    MayCall = λ f. Unit {0};
    MayLoop = λ L at l. Unit {0};
  }

  paced_keeps : Preserves p paced
  unfolding paced
  paced_keeps = record {
    ret = λ L R a b q. paced_ret R a b q;
    bind = λ L R Q m n k l g f. paced_then R Q m n k l g f;
    using = λ ty L L' R m n k l g f. paced_then R Equal m n k l g f;
    tick = λ L t. record { at = λ s. let o = ticks_alike s.steps s in wanting_goes Units s _ _ o.0 o.1 };
    room = λ L n. record { at = λ s. let o = room_alike (nat_le (length s.cells + s.active + n) run.most_cells) s in wanting_goes Units s _ _ o.0 o.1 };
    retype = λ a b v u _ q. q;
    retyped = λ L a b m n _ q. q;
    const = λ ty v _. refl;
    digit = λ b. refl;
    convert = λ L from to v u q. paced_ret Equal _ _ (ap (fit p.model to) q);
    test = λ L ty v u q. paced_ret Equal _ _ (ap (λ x. not (is_zero x)) q);
    truth = λ t u q. ap number_of q;
    draw = λ L kind spot ty. record { at = λ s. wanting_goes Equal s _ _ (refl, refl) (stays s) };
    cell = λ o i _. refl;
    element = λ L spot o vs us q.
        let n = size_of_object p o in
        let c = columns_of_object p o in
        subst (λ xs. Paced Equal (run.key_of p T keep spot o (cell_among n c vs)) (w.quiet p S see (run.key_of p S see spot o (cell_among n c xs)))) (same_values vs us q) (paced_key spot o (cell_among n c vs));
    look = λ L o x y _ q. subst (λ z. Paced Equal (acts.look End (State T) cells_of with_cells x) (w.quiet p S see (acts.look End (State S) cells_of with_cells z))) q (record { at = λ s. quiet_goes Equal s _ _ (refl, refl) (stays s) });
    write = λ L o x y v u m t q. subst (λ z. Paced Units (acts.write End (State T) cells_of with_cells x v) (w.quiet p S see (acts.write End (State S) cells_of with_cells z u))) t
        (subst (λ z. Paced Units (acts.write End (State T) cells_of with_cells x v) (w.quiet p S see (acts.write End (State S) cells_of with_cells x z))) q (record { at = λ s. quiet_goes Units s _ _ (tt, refl) (stays s) }));
    answer = λ L at spot op ty x x' right y y' q r. subst (λ z. Paced Equal (run.answered p T keep at spot (apply_of p.model op ty x y)) (w.wanting p S see (run.answered p S see at spot (apply_of p.model op ty z y')))) q
        (subst (λ z. Paced Equal (run.answered p T keep at spot (apply_of p.model op ty x y)) (w.wanting p S see (run.answered p S see at spot (apply_of p.model op ty x z)))) r (paced_answered at spot (apply_of p.model op ty x y)));
    answer_one = λ L at spot op ty x x' q. subst (λ z. Paced Equal (run.answered p T keep at spot (apply_one_of p.model op ty x)) (w.wanting p S see (run.answered p S see at spot (apply_one_of p.model op ty z)))) q (paced_answered at spot (apply_one_of p.model op ty x));
    choose = λ ty L t u a a' b b' q f g. subst (λ z. Paced Equal (λ s. cond t a b s) (w.either p S see z a' b')) q (paced_either Equal t a b a' b' f g);
    pick = λ ty L mark t u a a' b b' q f g. subst (λ z. Paced Equal (run.branched p T keep mark t a b) (w.branched p S see mark z a' b')) q (paced_branched Equal mark t a b a' b' f g);
    enter = λ L site. paced_tell (Enter site.close);
    came_back = λ L site ty v u q. subst (λ z. Paced Units (run.tell p T keep (Return site.close (Some v))) (w.wanting p S see (run.tell p S see (Return site.close (Some z))))) q (paced_tell (Return site.close (Some v)));
    reach = λ L at site. paced_reached p.property at site;
    ending = λ L. paced_stop Equal _;
    called = λ ty L site a b end f. paced_called site a b (f tt tt);
    missing = λ L. paced_stop Equal _;
    here = λ L at. paced_here at;
    declare = λ ty L o n _. record { at = λ s. wanting_goes Equal s _ _ (refl, refl) (stays s) };
    own = λ L o. tt;
    branch = λ ty L L' at t u a a' b b' q f g. subst (λ z. Paced Equal (run.branched p T keep at t a b) (w.branched p S see at z a' b')) q (paced_branched Equal at t a b a' b' f g);
    select = λ L at ty v u ls q. subst (λ z. Paced Same (run.selected p T keep at v ls) (w.wanting p S see (run.selected p S see at z ls))) q (paced_selected at v ls);
    next = λ ty L. paced_ret Equal _ _ refl;
    leave = λ ty L. paced_ret Equal _ _ refl;
    again = λ ty L. paced_ret Equal _ _ refl;
    give = λ ty L v u q. paced_ret Equal _ _ (ap (λ x. Gave (Some x)) q);
    give_none = λ ty L q. paced_ret Equal _ _ refl;
    seq = λ ty L L' L'' a a' b b' f g. paced_seq a b a' b' f g;
    scoped = λ ty L L' a b f. paced_scoped Equal a b f;
    continued = λ ty L L' a b f. paced_then Equal Equal _ _ (λ g s. Go (continuing g) s) (λ g. w.quiet p S see (λ t. Go (continuing g) t)) (paced_scoped Equal a b f) (λ x y e. paced_ret Equal _ _ (ap continuing e));
    breaks = λ ty L L' a b f. paced_then Equal Equal _ _ (λ g s. Go (held g) s) (λ g. w.quiet p S see (λ t. Go (held g) t)) (paced_scoped Equal a b f) (λ x y e. paced_ret Equal _ _ (ap held e));
  }

  free : Free paced
  unfolding paced
  free = record {
    agree = λ a b. tt;
    const = λ ty v. tt;
    cell = λ o i. tt;
    size = λ o n. tt;
    read = λ L o. tt;
    write = λ L o. tt;
    call = λ f. tt;
    loop = λ L at l. tt;
  }

  -- calls at most n deep
  paced_run : (n : ℕ) (f : Function) → Paced Equal (run_in p (real p T keep) n f) (run_in p (ways p S see) n f)
  unfolding paced
  paced_run zero f = paced_stop Equal _
  paced_run (suc n) f =
      related_body p paced paced_keeps
      (λ site g vs. call_of p (real p T keep) (run_in p (real p T keep) n) site (slice_get p.functions g) vs)
      (λ site g vs. call_of p (ways p S see) (run_in p (ways p S see) n) site (slice_get p.functions g) vs)
      (λ L site g vs ws m q. related_call p paced paced_keeps (run_in p (real p T keep) n) (run_in p (ways p S see) n) site (slice_get p.functions g) (λ fn e. (all_fit_params p paced free fn.params, λ E z. paced_run n fn)) L vs ws q)
      (λ L at result l m g. paced_scoped Equal _ _ (paced_loop at l _ _ g))
      f.result tt f.body (all_fit p paced free f.result tt f.body)

  paced_if : (n : ℕ) (f : Option Function) → Paced Equal (run_if p (real p T keep) n f) (run_if p (ways p S see) n f)
  paced_if n None = paced_ret Equal _ _ refl
  paced_if n (Some f) = paced_run n f

  -- the run that keeps its way goes the way of the run, and what was seen on it is a front of what is told
  pub paced_main : (n : ℕ) (s : State T) → Goes Equal s (run_main p (real p T keep) n s) (run_main p (ways p S see) n (mapped s))
  paced_main n s = (paced_if n (slice_get p.functions p.main)).at s

module _ (p : Program) (S : Type 0) (after : Event → List Cell → S → S) (x : S) (c : Choices) (n : ℕ) where
  -- what is seen of moments, the last first
  abbrev pub seen_of : List Moment → S
  seen_of ms = seen_after after x (reverse ms)

  seen_on : (x : S) (ms : List Moment) (m : Moment) → seen_after after x (ms ++ m ∷ []) ≡ seen_by after m (seen_after after x ms)
  seen_on x [] m = refl
  seen_on x (l ∷ ms) m = seen_on (seen_by after l x) ms m

  pub follows : (m : Moment) (ms : List Moment) → seen_of (m ∷ ms) ≡ seen_by after m (seen_of ms)
  follows m ms = ap (seen_after after x) (reverse-append (m ∷ []) ms) ∙ seen_on x (reverse ms) m

  pub saw_nothing : (ms : List Moment) → SawFront after ms x x
  saw_nothing ms = record { front = []; rest = ms; split = refl; saw = refl }

  -- whatever was seen on the way of a run of a program is what follows a front of its moments
  pub way_fronts : (y : S) → IsOn y (run_main p (ways p S (seen_by after)) (suc n) (run.first_state p S x c n)).way → SawFront after (run.Moments p c n) x y
  way_fronts y o =
      let f = (paced_main p S (seen_by after) seen_of follows (suc n) (run.first_state p (List Moment) [] c n)).fronts y o in
      record { front = reverse f.0; rest = reverse f.1.0; split = ap reverse f.1.1 ∙ reverse-append f.1.0 f.0; saw = sym f.2 }
