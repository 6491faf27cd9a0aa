-- A run with a bound, with steps enough for its values, and the run that seeks on these values.
use Rattle.std.proofs.Common.{◌≡◌, ◌<◌, ◌+◌, ◌-◌, ◌⊎◌, inl, inr, arith, ℕ, zero, suc, ℤ, pos, Bool, true, false, cond, not, nat_le, List, [], ◌∷◌, ◌++◌, length, take, refl, sym, ◌∙◌, ap, subst, Option, Some, None, slice_get}
use Rattle.c_core.specs.Tree.{Function, Program}
use Rattle.c_core.specs.Types.{fit, is_zero, number_of}
use Rattle.c_core.specs.Operators.{apply_of, apply_one_of}
use Rattle.c_core.specs.declared.number.Spot.{Spot}
use Rattle.c_core.specs.declared.number.IntType.{IntType}
use Rattle.c_core.specs.declared.number.Done.{Done}
use Rattle.c_core.specs.declared.number.Done.TheVariants.{Value, Overflow, Undefined as NoValue}
use Rattle.c_core.specs.declared.number.Property.{Property}
use Rattle.c_core.specs.declared.number.Property.TheVariants.{UnreachCall, NoOverflow}
use Rattle.c_meaning.specs.declared.run.End.TheVariants.{Ended, Undefined, Violated, Spent, Deep}
use Rattle.c_meaning.specs.declared.run.Event.{Event}
use Rattle.c_meaning.specs.declared.run.Event.TheVariants.{At, Branch, Enter, Return, Fail}
use Rattle.c_meaning.specs.declared.run.Way.TheVariants.{Truth}
use Rattle.c_meaning.specs.declared.run.DrawKind.{DrawKind}
use Rattle.c_meaning.specs.declared.run.Choices.TheVariants.{InTurn}
use Rattle.c_meaning.specs.Cells.{Cell, read, put, cells_from}
use Rattle.c_meaning.specs.Objects.{size_of_object, columns_of_object}
use Rattle.c_meaning.specs.Meaning.{Where, Site, Loop, Calls}
use Rattle.c_meaning.specs.Acts.{Res, Go, Stop, Flow, Next, Broken, Again, Gave, bind, go_on, turned, continuing, held, given}
use Rattle.c_meaning.specs.Acts as acts
use Rattle.c_meaning.specs.Exec.{turn, run_in, run_if, call_of}
use Rattle.c_meaning.specs.Run as run
use Rattle.c_meaning.specs.Run.{State, Moment, Told, Here, Head, real, cells_of, with_cells, cell_among, arm_for, way_for, first_value, other_values, or_zero, one_if_none, most_cells, first_state}
use Rattle.c_meaning.specs.Related.{Units, Relation, Preserves}
use Rattle.c_meaning.proofs.Fundamental.{same_values, related_body, related_call, Free, all_fit_params, all_fit}
use Rattle.way_match.specs.Points.{BoundSegment}
use Rattle.seek_meaning.specs.Progress.{none_completed, completed_after, completes_all}
use Rattle.seek_meaning.specs.Bounded as b
use Rattle.seek_meaning.specs.Bounded.{BoundedEnd, Within, Beyond, within, bounded, WholeBounded}
use Rattle.seek_meaning.specs.Seeking as seek
use Rattle.seek_meaning.specs.Seeking.{SeekEnd, Hits, Misses, SeekState, cells_sought, with_cells_sought, seeking, SeekRun}

abbrev Equal : {A : Type 0} → A → A → Type 0
Equal x y = x ≡ y

-- the last first
abbrev pub Seen : Type 0
Seen = List Moment

abbrev pub keep : Moment → Seen → Seen
keep x xs = x ∷ xs

abbrev pub Result : Type 0 → Type 0
Result A = Res BoundedEnd (State Seen) A

abbrev pub Sought : Type 0 → Type 0
Sought A = Res SeekEnd SeekState A

-- the same state with values to be taken in turn and so many steps
abbrev pub with_steps : State Seen → List ℤ → ℕ → State Seen
with_steps s vs n = record s { steps = n; choices = InTurn vs }

-- what a part gives, but for the steps that are left
abbrev pub leaving : {A : Type 0} → ℕ → Result A → Result A
leaving n (Go x s) = Go x (record s { steps = n })
leaving n (Stop e s) = Stop e (record s { steps = n })

abbrev pub IsSpent : {A : Type 0} → Result A → Type 0
IsSpent {A = A} r = (s : State Seen) × (r ≡ Stop (Within Spent) s)

-- neither a violation nor want of steps or room
abbrev pub IsMiss : BoundedEnd → Type 0
IsMiss (Within Ended) = Unit {0}
IsMiss (Within (Undefined spot)) = Unit {0}
IsMiss (Within (Violated spot)) = ⊥
IsMiss (Within Spent) = ⊥
IsMiss (Within Deep) = ⊥
IsMiss Beyond = Unit {0}

module _ (p : Program) (ss : List BoundSegment) (k : ℕ) where
  -- the numbers of segments that the events among moments have completed
  abbrev pub completed_by : Seen → List Bool
  completed_by [] = none_completed ss
  completed_by (Told e cells ∷ xs) = completed_after p ss e cells (completed_by xs)
  completed_by (Here spot cells ∷ xs) = completed_by xs
  completed_by (Head at l arrived cells ∷ xs) = completed_by xs

  -- a state as the run that seeks has it
  abbrev pub track : State Seen → List ℤ → SeekState
  track s vs = record { cells = s.cells; values = vs; draws = s.draws; completed = completed_by s.seen }

  -- the one goes on as the other does; it violates the property where the other hits or misses; it comes to nothing where the other
  -- misses; or it has no room
  pub data On {A B : Type 0} (R : A → B → Type 0) : Result A → Sought B → Type 0 where
    goes : (x : A) (y : B) (s : State Seen) (vs : List ℤ) → R x y → On R (Go x (with_steps s vs 0)) (Go y (track s vs))
    violates : (spot : Spot) (e : Event) (s : State Seen) (vs : List ℤ)
        → On R (Stop (Within (Violated spot)) (with_steps (record s { seen = Told e s.cells ∷ s.seen }) vs 0)) (Stop (cond (completes_all p ss e s.cells (completed_by s.seen)) Hits Misses) (track s vs))
    misses : (e : BoundedEnd) (s : State Seen) (vs : List ℤ) → IsMiss e → On R (Stop e (with_steps s vs 0)) (Stop Misses (track s vs))
    deep : (s : State Seen) (vs : List ℤ) (q : Sought B) → On R (Stop (Within Deep) (with_steps s vs 0)) q

  -- steps: what the part takes from a state; with fewer it is spent, with more all are left that it doesn't take
  pub record Takes {A B : Type 0} (R : A → B → Type 0) (m : State Seen → Result A) (s : State Seen) (vs : List ℤ) (q : Sought B) : Type 0 where
    pub steps : ℕ
    pub gives : Result A
    pub enough : (more : ℕ) → m (with_steps s vs (steps + more)) ≡ leaving more gives
    pub fewer : (n : ℕ) → n < steps → IsSpent (m (with_steps s vs n))
    pub on : On R gives q

  record Like {A B : Type 0} (R : A → B → Type 0) (m : State Seen → Result A) (n : SeekState → Sought B) : Type 0 where
    at : (s : State Seen) (vs : List ℤ) → Takes R m s vs (n (track s vs))

  -- a part that takes no step
  at_once : {A B : Type 0} (R : A → B → Type 0) (m : State Seen → Result A) (s : State Seen) (vs : List ℤ) (r : Result A) (q : Sought B) → ((n : ℕ) → m (with_steps s vs n) ≡ leaving n r) → On R r q → Takes R m s vs q
  at_once R m s vs r q h o = record {
    steps = 0;
    gives = r;
    enough = λ more. let e : 0 + more ≡ more = omega arith in subst (λ n. m (with_steps s vs n) ≡ leaving more r) (sym e) (h more);
    fewer = λ n e. absurd (omega (arith, e));
    on = o;
  }

  spent_then : {A B : Type 0} (r : Result A) (f : A → State Seen → Result B) → IsSpent r → IsSpent (bind r f)
  spent_then r f h = (h.0, ap (λ z. bind z f) h.1)

  pub lt_or_more : (n m : ℕ) → (n < m) ⊎ ((d : ℕ) × (n ≡ m + d))
  lt_or_more n zero = inr (n, omega arith)
  lt_or_more zero (suc m) = inl (omega arith)
  lt_or_more (suc n) (suc m) = elim (lt_or_more n m) [
    | inl e ↦ inl (omega (arith, e))
    | inr e ↦ inr (e.0, omega (arith, e.1))
  ]

  -- a part that takes so many steps, then another
  goes_then : {A C D : Type 0} (Q : C → D → Type 0) (m : State Seen → Result A) (f : A → State Seen → Result C) (s : State Seen) (vs : List ℤ) (steps : ℕ) (x : A) (t : State Seen) (us : List ℤ) (q : Sought D)
      → ((more : ℕ) → m (with_steps s vs (steps + more)) ≡ Go x (with_steps t us more)) → ((n : ℕ) → n < steps → IsSpent (m (with_steps s vs n))) → Takes Q (f x) t us q → Takes Q (λ z. bind (m z) f) s vs q
  goes_then Q m f s vs steps x t us q enough fewer u = record {
    steps = steps + u.steps;
    gives = u.gives;
    enough = λ more.
        let e : steps + u.steps + more ≡ steps + (u.steps + more) = omega arith in
        ap (λ n. bind (m (with_steps s vs n)) f) e ∙ ap (λ r. bind r f) (enough (u.steps + more)) ∙ u.enough more;
    fewer = λ n e. elim (lt_or_more n steps) as (λ _. IsSpent (bind (m (with_steps s vs n)) f)) [
      | inl less ↦ spent_then (m (with_steps s vs n)) f (fewer n less)
      | inr more ↦
          let d = more.0 in
          let later : IsSpent (f x (with_steps t us d)) = u.fewer d (omega (arith, e, more.1)) in
          (later.0, ap (λ n. bind (m (with_steps s vs n)) f) more.1 ∙ ap (λ r. bind r f) (enough d) ∙ later.1)
    ];
    on = u.on;
  }

  takes_then : {A B C D : Type 0} (R : A → B → Type 0) (Q : C → D → Type 0) (m : State Seen → Result A) (f : A → State Seen → Result C) (g : B → SeekState → Sought D) (s : State Seen) (vs : List ℤ)
      (steps : ℕ) (r : Result A) (q : Sought B) → ((more : ℕ) → m (with_steps s vs (steps + more)) ≡ leaving more r) → ((n : ℕ) → n < steps → IsSpent (m (with_steps s vs n))) → On R r q
      → ((x : A) (y : B) → R x y → Like Q (f x) (g y)) → Takes Q (λ z. bind (m z) f) s vs (bind q g)
  takes_then R Q m f g s vs steps _ _ enough fewer (goes x y t us e) h = goes_then Q m f s vs steps x t us (g y (track t us)) enough fewer ((h x y e).at t us)
  takes_then R Q m f g s vs steps _ _ enough fewer (violates spot e t us) h = record {
    steps = steps;
    gives = Stop (Within (Violated spot)) (with_steps (record t { seen = Told e t.cells ∷ t.seen }) us 0);
    enough = λ more. ap (λ z. bind z f) (enough more);
    fewer = λ n z. spent_then (m (with_steps s vs n)) f (fewer n z);
    on = violates spot e t us;
  }
  takes_then R Q m f g s vs steps _ _ enough fewer (misses e t us x) h = record {
    steps = steps;
    gives = Stop e (with_steps t us 0);
    enough = λ more. ap (λ z. bind z f) (enough more);
    fewer = λ n z. spent_then (m (with_steps s vs n)) f (fewer n z);
    on = misses e t us x;
  }
  takes_then R Q m f g s vs steps _ _ enough fewer (deep t us q) h = record {
    steps = steps;
    gives = Stop (Within Deep) (with_steps t us 0);
    enough = λ more. ap (λ z. bind z f) (enough more);
    fewer = λ n z. spent_then (m (with_steps s vs n)) f (fewer n z);
    on = deep t us (bind q g);
  }

  then : {A B C D : Type 0} (R : A → B → Type 0) (Q : C → D → Type 0) (m : State Seen → Result A) (n : SeekState → Sought B) (f : A → State Seen → Result C) (g : B → SeekState → Sought D)
      → Like R m n → ((x : A) (y : B) → R x y → Like Q (f x) (g y)) → Like Q (λ s. bind (m s) f) (λ s. bind (n s) g)
  then R Q m n f g l h = record { at = λ s vs. let t = l.at s vs in takes_then R Q m f g s vs t.steps t.gives (n (track s vs)) t.enough t.fewer t.on h }

  like_ret : {A B : Type 0} (R : A → B → Type 0) (x : A) (y : B) → R x y → Like R (λ s. Go x s) (λ s. Go y s)
  like_ret R x y e = record { at = λ s vs. at_once R (λ z. Go x z) s vs (Go x (with_steps s vs 0)) (Go y (track s vs)) (λ n. refl) (goes x y s vs e) }

  like_miss : {A B : Type 0} (R : A → B → Type 0) (e : BoundedEnd) → IsMiss e → Like {A = A} {B = B} R (λ s. Stop e s) (λ s. Stop Misses s)
  like_miss R e h = record { at = λ s vs. at_once R (λ z. Stop e z) s vs (Stop e (with_steps s vs 0)) (Stop Misses (track s vs)) (λ n. refl) (misses e s vs h) }

  like_cond : {A B : Type 0} (R : A → B → Type 0) (t : Bool) (a a' : State Seen → Result A) (x x' : SeekState → Sought B) → Like R a x → Like R a' x' → Like R (cond t a a') (cond t x x')
  like_cond R true a a' x x' g h = g
  like_cond R false a a' x x' g h = h

  cut_leaving : {A : Type 0} (n more : ℕ) (r : Result A) → acts.cut BoundedEnd (State Seen) cells_of with_cells n (leaving more r) ≡ leaving more (acts.cut BoundedEnd (State Seen) cells_of with_cells n r)
  cut_leaving n more (Go x s) = refl
  cut_leaving n more (Stop e s) = refl

  on_cut : {A B : Type 0} (R : A → B → Type 0) (n : ℕ) (r : Result A) (q : Sought B) → On R r q → On R (acts.cut BoundedEnd (State Seen) cells_of with_cells n r) (acts.cut SeekEnd SeekState cells_sought with_cells_sought n q)
  on_cut R n _ _ (goes x y s vs e) = goes x y (record s { cells = take n s.cells }) vs e
  on_cut R n _ _ (violates spot e s vs) = violates spot e s vs
  on_cut R n _ _ (misses e s vs x) = misses e s vs x
  on_cut R n _ _ (deep s vs q) = deep s vs (acts.cut SeekEnd SeekState cells_sought with_cells_sought n q)

  like_scoped : {A B : Type 0} (R : A → B → Type 0) (m : State Seen → Result A) (n : SeekState → Sought B) → Like R m n → Like R (acts.scoped BoundedEnd (State Seen) cells_of with_cells m) (acts.scoped SeekEnd SeekState cells_sought with_cells_sought n)
  like_scoped R m n g = record {
    at = λ s vs.
        let t = g.at s vs in
        record {
          steps = t.steps;
          gives = acts.cut BoundedEnd (State Seen) cells_of with_cells (length s.cells) t.gives;
          enough = λ more. ap (acts.cut BoundedEnd (State Seen) cells_of with_cells (length s.cells)) (t.enough more) ∙ cut_leaving (length s.cells) more t.gives;
          fewer = λ j e. let z = t.fewer j e in (z.0, ap (acts.cut BoundedEnd (State Seen) cells_of with_cells (length s.cells)) z.1);
          on = on_cut R (length s.cells) t.gives (n (track s vs)) t.on;
        };
  }

  -- ---- the parts of a run
  like_tick : Like Units (λ s. within (run.tick_from p Seen keep s.steps s)) (λ s. Go tt s)
  like_tick = record {
    at = λ s vs. record {
      steps = 1;
      gives = Go tt (with_steps s vs 0);
      enough = λ more. let e : 1 + more ≡ suc more = omega arith in ap (λ n. within (run.tick_from p Seen keep n (with_steps s vs n))) e;
      fewer = λ n e. none n s vs (omega (arith, e));
      on = goes tt tt s vs tt;
    };
  }
    where
      none : (n : ℕ) (s : State Seen) (vs : List ℤ) → n ≡ 0 → IsSpent (within (run.tick_from p Seen keep n (with_steps s vs n)))
      none zero s vs e = (with_steps s vs 0, refl)
      none (suc n) s vs e = absurd (omega (arith, e))

  like_room : (n : ℕ) → Like Units (λ s. within (run.room p Seen keep n s)) (λ s. Go tt s)
  like_room n = record { at = λ s vs. by (nat_le (length s.cells + s.active + n) most_cells) s vs refl }
    where
      by : (t : Bool) (s : State Seen) (vs : List ℤ) → nat_le (length s.cells + s.active + n) most_cells ≡ t → Takes Units (λ s. within (run.room p Seen keep n s)) s vs (Go tt (track s vs))
      by true s vs e =
          at_once Units (λ s. within (run.room p Seen keep n s)) s vs (Go tt (with_steps s vs 0)) (Go tt (track s vs))
          (λ j. ap (λ t. within (cond t (Go tt (with_steps s vs j)) (Stop Deep (with_steps s vs j)))) e) (goes tt tt s vs tt)
      by false s vs e =
          at_once Units (λ s. within (run.room p Seen keep n s)) s vs (Stop (Within Deep) (with_steps s vs 0)) (Go tt (track s vs))
          (λ j. ap (λ t. within (cond t (Go tt (with_steps s vs j)) (Stop Deep (with_steps s vs j)))) e) (deep s vs (Go tt (track s vs)))

  like_told : (e : Event) → Like Units (λ s. within (run.tell p Seen keep e s)) (seek.tell p ss k e)
  like_told e = record {
    at = λ s vs.
        let t : State Seen = record s { seen = Told e s.cells ∷ s.seen } in
        at_once Units (λ s. within (run.tell p Seen keep e s)) s vs (Go tt (with_steps t vs 0)) (Go tt (track t vs)) (λ n. refl) (goes tt tt t vs tt);
  }

  like_draw : (kind : DrawKind) (spot : Spot) (ty : IntType) → Like Equal (λ s. within (run.draw p Seen keep kind spot ty s)) (seek.draw p ss k kind spot ty)
  like_draw kind spot ty = record {
    at = λ s vs.
        let v : ℤ = fit p.model ty (or_zero (first_value vs)) in
        let t : State Seen = record s { draws = s.draws ++ record { spot = spot; ty = ty; value = v; from = kind } ∷ []; unfixed = s.unfixed + one_if_none (first_value vs) } in
        at_once Equal (λ s. within (run.draw p Seen keep kind spot ty s)) s vs (Go v (with_steps t (other_values vs) 0)) (Go v (track t (other_values vs))) (λ n. refl) (goes v v t (other_values vs) refl);
  }

  like_violated : (at : Where) (spot : Spot) (call : Option Spot) → Like Equal (λ s. within (run.violated p Seen keep {A = ℤ} at spot call s)) (seek.violated p ss k {A = ℤ} at call)
  like_violated at spot call = record {
    at = λ s vs.
        let e : Event = Fail at.statement at.full call in
        at_once Equal (λ s. within (run.violated p Seen keep {A = ℤ} at spot call s)) s vs (Stop (Within (Violated spot)) (with_steps (record s { seen = Told e s.cells ∷ s.seen }) vs 0))
        (Stop (cond (completes_all p ss e s.cells (completed_by s.seen)) Hits Misses) (track s vs)) (λ n. refl) (violates spot e s vs);
  }

  like_overflowed : (y : Property) (at : Where) (spot : Spot) (v : ℤ) → Like Equal (λ s. within (run.overflowed p Seen keep y at spot v s)) (seek.overflowed p ss k y at v)
  like_overflowed NoOverflow at spot v = like_violated at spot None
  like_overflowed UnreachCall at spot v = like_ret Equal v v refl

  like_answered : (at : Where) (spot : Spot) (d : Done) → Like Equal (λ s. within (run.answered p Seen keep at spot d s)) (seek.answered p ss k at d)
  like_answered at spot (Value v) = like_ret Equal v v refl
  like_answered at spot (Overflow v) = like_overflowed p.property at spot v
  like_answered at spot NoValue = like_miss Equal (Within (Undefined spot)) tt

  like_key : (spot : Spot) (o : ℕ) (i : Option ℕ) → Like Equal (λ s. within (run.key_of p Seen keep spot o i s)) (seek.key_of p ss k o i)
  like_key spot o None = like_miss Equal (Within (Undefined spot)) tt
  like_key spot o (Some i) = like_ret Equal _ _ refl

  like_reached : (y : Property) (at : Where) (site : Site) → Like Equal (λ s. within (run.reached p Seen keep y at site s)) (seek.reached p ss k y at site)
  like_reached UnreachCall at site = like_violated at site.spot (Some site.spot)
  like_reached NoOverflow at site = like_miss Equal (Within Ended) tt

  like_branched : (spot : Spot) (t : Bool) {A : Type 0} (a a' : State Seen → Result A) (x x' : SeekState → Sought A) → Like Equal a x → Like Equal a' x' → Like Equal (b.branched p Seen keep k spot t a a') (seek.branched p ss k spot t x x')
  like_branched spot t a a' x x' g h = then Units Equal _ _ _ _ (like_told (Branch spot (Truth t))) (λ _ _ _. like_cond Equal t a a' x x' g h)

  -- an event, then at once a value
  like_told_value : {A : Type 0} (e : Event) (v : A) → Like Equal (λ s. within (bind (run.tell p Seen keep e s) (λ _ t. Go v t))) (λ s. bind (seek.tell p ss k e s) (λ _ t. Go v t))
  like_told_value e v = record {
    at = λ s vs.
        let t : State Seen = record s { seen = Told e s.cells ∷ s.seen } in
        at_once Equal (λ s. within (bind (run.tell p Seen keep e s) (λ _ t. Go v t))) s vs (Go v (with_steps t vs 0)) (Go v (track t vs)) (λ n. refl) (goes v v t vs refl);
  }

  like_told_miss : (e : Event) (spot : Spot) → Like Equal (λ s. within (bind (run.tell p Seen keep e s) (λ _. run.stop p Seen keep {A = ℤ} (Undefined spot)))) (λ s. bind (seek.tell p ss k e s) (λ _. seek.miss p ss k {A = ℤ}))
  like_told_miss e spot = record {
    at = λ s vs.
        let t : State Seen = record s { seen = Told e s.cells ∷ s.seen } in
        at_once Equal (λ s. within (bind (run.tell p Seen keep e s) (λ _. run.stop p Seen keep {A = ℤ} (Undefined spot)))) s vs (Stop (Within (Undefined spot)) (with_steps t vs 0)) (Stop Misses (track t vs)) (λ n. refl) (misses (Within (Undefined spot)) t vs tt);
  }

  like_returned : (site : Site) (v : Option ℤ) → Like Equal (λ s. within (run.returned p Seen keep site v s)) (seek.returned p ss k site v)
  like_returned site (Some v) = like_told_value (Return site.close (Some v)) v
  like_returned site None = by site.needed
    where
      by : (needed : Bool) → Like Equal (λ s. within (bind (run.tell p Seen keep (Return site.close None) s) (λ _. cond needed (run.stop p Seen keep (Undefined site.spot)) (run.ret p Seen keep (pos 0)))))
          (λ s. bind (seek.tell p ss k (Return site.close None) s) (λ _. cond needed (seek.miss p ss k) (seek.ret p ss k (pos 0))))
      by true = like_told_miss (Return site.close None) site.spot
      by false = like_told_value (Return site.close None) (pos 0)

  -- after the body one call fewer is active
  like_back : (site : Site) (f : Flow) → Like Equal (λ s. bind (within (run.shallower p Seen keep s)) (λ _ t. within (run.returned p Seen keep site (given f) t))) (seek.returned p ss k site (given f))
  like_back site f = record {
    at = λ s vs. let t = (like_returned site (given f)).at (record s { active = s.active - 1 }) vs in record { steps = t.steps; gives = t.gives; enough = λ more. t.enough more; fewer = λ n e. t.fewer n e; on = t.on };
  }

  like_called : (site : Site) (m : State Seen → Result Flow) (n : SeekState → Sought Flow) → Like Equal m n
      → Like Equal (b.called p Seen keep k site m) (λ s. bind (acts.scoped SeekEnd SeekState cells_sought with_cells_sought n s) (λ f. seek.returned p ss k site (given f)))
  like_called site m n g = record {
    at = λ s vs.
        let body = then Equal Equal _ _ (λ f s. bind (within (run.shallower p Seen keep s)) (λ _ t. within (run.returned p Seen keep site (given f) t))) (λ f. seek.returned p ss k site (given f)) (like_scoped Equal m n g) (λ f f' e. rw e (like_back site f')) in
        let t = body.at (record s { active = suc s.active }) vs in
        record { steps = t.steps; gives = t.gives; enough = λ more. t.enough more; fewer = λ j e. t.fewer j e; on = t.on };
  }

  like_go_on : (a : State Seen → Result Flow) (x : SeekState → Sought Flow) → Like Equal a x → (f : Flow) → Like Equal (go_on a f) (go_on x f)
  like_go_on a x g Next = record { at = λ s vs. g.at s vs }
  like_go_on a x g Broken = like_ret Equal Broken Broken refl
  like_go_on a x g Again = like_ret Equal Again Again refl
  like_go_on a x g (Gave v) = like_ret Equal (Gave v) (Gave v) refl

  like_turned : (a : State Seen → Result Flow) (x : SeekState → Sought Flow) → Like Equal a x → (f : Flow) → Like Equal (turned a f) (turned x f)
  like_turned a x g Next = record { at = λ s vs. g.at s vs }
  like_turned a x g Broken = like_ret Equal Next Next refl
  like_turned a x g Again = like_ret Equal Again Again refl
  like_turned a x g (Gave v) = like_ret Equal (Gave v) (Gave v) refl

  module _ (at : Spot) (l : Loop) (arrived : List Cell) (a : b.Turn p Seen keep k) (x : seek.Turn p ss k) (g : (may : Bool) → Like Equal (a may) (x may)) where
    -- one turn, then what is alike
    one_turn : (may : Bool) (m : State Seen → Result Flow) (n : SeekState → Sought Flow) → Like Equal m n
        → Like Equal (λ s. bind (within (run.note p Seen keep (Head at l arrived s.cells) s)) (λ _ t. bind (a may t) (turned m))) (λ s. bind (x may s) (turned n))
    one_turn may m n h = record {
      at = λ s vs.
          let t = (then Equal Equal (a may) (x may) (turned m) (turned n) (g may) (λ f f' e. rw e (like_turned m n h f'))).at (record s { seen = Head at l arrived s.cells ∷ s.seen }) vs in
          record { steps = t.steps; gives = t.gives; enough = λ more. t.enough more; fewer = λ j e. t.fewer j e; on = t.on };
    }

    like_turns : (r : ℕ) → Like Equal (b.turns p Seen keep k r at l arrived a) (seek.turns p ss k r x)
    like_turns zero = one_turn false (b.beyond p Seen keep k) (seek.miss p ss k) (like_miss Equal Beyond tt)
    like_turns (suc r) = one_turn true (b.turns p Seen keep k r at l arrived a) (seek.turns p ss k r x) (like_turns r)

  like_loop : (at : Spot) (l : Loop) (a : b.Turn p Seen keep k) (x : seek.Turn p ss k) → ((may : Bool) → Like Equal (a may) (x may)) → Like Equal (λ s. b.turns p Seen keep k k at l s.cells a s) (seek.turns p ss k k x)
  like_loop at l a x g = record {
    at = λ s vs. let t = (like_turns at l s.cells a x g k).at s vs in record { steps = t.steps; gives = t.gives; enough = λ more. t.enough more; fewer = λ j e. t.fewer j e; on = t.on };
  }

  like_body : (may : Bool) (a : b.Turn p Seen keep k) (x : seek.Turn p ss k) → ((may : Bool) → Like Equal (a may) (x may)) → Like Equal (b.body_of p Seen keep k may a) (seek.body_of p ss k may x)
  like_body false a x g = like_miss Equal Beyond tt
  like_body true a x g = then Equal Equal _ _ _ _ (like_scoped Equal (a true) (x true) (g true)) (λ f f' e. like_ret Equal _ _ (ap continuing e))

  follow : Relation (bounded p Seen keep k) (seeking p ss k)
  follow = record {
    Scope = Unit {0};
    more = λ L o. L;
    Entry = λ L. Unit {0};
    Values = λ ty v w. v ≡ w;
    Truths = λ t u. t ≡ u;
    Targets = λ o x y. x ≡ y;
    Acts = λ L R m n. Like R m n;
    Dones = λ ty L M a x. (may : Bool) → Like Equal (a may) (x may);
    Agree = λ a c. Unit {0};
    IsConst = λ ty v. Unit {0};
    HasCell = λ o i. Unit {0};
    HasSize = λ o n. Unit {0};
    MayRead = λ L o. Unit {0};
    MayWrite = λ L o. Unit {0};
    MayCall = λ f. Unit {0};
    MayLoop = λ L at l. Unit {0};
  }

  follow_keeps : Preserves p follow
  unfolding follow
  follow_keeps = record {
    ret = λ L R x y e. like_ret R x y e;
    bind = λ L R Q m n f g l h. then R Q m n f g l h;
    using = λ ty L M R m n f g l h may. then R Equal m n (λ x. f x may) (λ y. g y may) l (λ x y e. h x y e may);
    tick = λ L t. like_tick;
    room = λ L n. like_room n;
    retype = λ a c v w _ q. q;
    retyped = λ L a c m n _ q. q;
    const = λ ty v _. refl;
    digit = λ t. refl;
    convert = λ L from to v w q. like_ret Equal _ _ (ap (fit p.model to) q);
    test = λ L ty v w q. like_ret Equal _ _ (ap (λ x. not (is_zero x)) q);
    truth = λ t u q. ap number_of q;
    draw = λ L kind spot ty. like_draw kind spot ty;
    cell = λ o i _. refl;
    element = λ L spot o vs ws q. rw (same_values vs ws q) (like_key spot o (cell_among (size_of_object p o) (columns_of_object p o) ws));
    look = λ L o x y _ q. rw q (record { at = λ s vs. at_once Equal (λ s. within ((real p Seen keep).look y s)) s vs (Go (read y s.cells) (with_steps s vs 0)) (Go (read y s.cells) (track s vs)) (λ n. refl) (goes _ _ s vs refl) });
    write = λ L o x y v w m t q. rw (t, q) (record { at = λ s vs. at_once Units (λ s. within ((real p Seen keep).write y w s)) s vs (Go tt (with_steps (record s { cells = put y w s.cells }) vs 0)) (Go tt (track (record s { cells = put y w s.cells }) vs)) (λ n. refl) (goes tt tt (record s { cells = put y w s.cells }) vs tt) });
    answer = λ L at spot op ty x x' right y y' q r. rw (q, r) (like_answered at spot (apply_of p.model op ty x' y'));
    answer_one = λ L at spot op ty x x' q. rw q (like_answered at spot (apply_one_of p.model op ty x'));
    choose = λ ty L t u a a' x x' q g h. rw q (like_cond Equal u a x a' x' g h);
    pick = λ ty L mark t u a a' x x' q g h. rw q (like_branched mark u a x a' x' g h);
    enter = λ L site. like_told (Enter site.close);
    came_back = λ L site ty v w q. rw q (like_told (Return site.close (Some w)));
    reach = λ L at site. like_reached p.property at site;
    ending = λ L. like_miss Equal (Within Ended) tt;
    called = λ ty L site a x end g. like_called site (a true) (x true) (g tt tt true);
    missing = λ L. like_miss Equal (Within Ended) tt;
    here = λ L at. record {
      at = λ s vs.
          let t : State Seen = record s { seen = Told (At at) s.cells ∷ (Here at s.cells ∷ s.seen) } in
          at_once Units (λ s. within ((real p Seen keep).here at s)) s vs (Go tt (with_steps t vs 0)) (Go tt (track t vs)) (λ n. refl) (goes tt tt t vs tt);
    };
    declare = λ ty L o n _ may. record {
      at = λ s vs.
          let t : State Seen = record s { cells = s.cells ++ cells_from o 0 n [] } in
          at_once Equal (λ s. within ((real p Seen keep).declare o n s)) s vs (Go Next (with_steps t vs 0)) (Go Next (track t vs)) (λ j. refl) (goes Next Next t vs refl);
    };
    own = λ L o. tt;
    branch = λ ty L M at t u a a' x x' q g h may. rw q (like_branched at u (a may) (x may) (a' may) (x' may) (g may) (h may));
    select = λ L at ty v w ls q. rw q (like_told_value (Branch at (way_for w ls)) (arm_for w ls));
    next = λ ty L may. like_ret Equal Next Next refl;
    leave = λ ty L may. like_ret Equal Broken Broken refl;
    again = λ ty L may. like_ret Equal Again Again refl;
    give = λ ty L v w q may. like_ret Equal _ _ (ap (λ z. Gave (Some z)) q);
    give_none = λ ty L q may. like_ret Equal (Gave None) (Gave None) refl;
    seq = λ ty L M N a a' x x' g h may. then Equal Equal _ _ _ _ (g may) (λ f f' e. rw e (like_go_on (x may) (x' may) (h may) f'));
    scoped = λ ty L M a x g may. like_scoped Equal (a may) (x may) (g may);
    continued = λ ty L M a x g may. like_body may a x g;
    breaks = λ ty L M a x g may. then Equal Equal _ _ _ _ (like_scoped Equal (a may) (x may) (g may)) (λ f f' e. like_ret Equal _ _ (ap held e));
  }

  free : Free follow
  unfolding follow
  free = record {
    agree = λ a c. tt;
    const = λ ty v. tt;
    cell = λ o i. tt;
    size = λ o n. tt;
    read = λ L o. tt;
    write = λ L o. tt;
    call = λ f. tt;
    loop = λ L at l. tt;
  }

  like_run : (n : ℕ) (f : Function) (may : Bool) → Like Equal (run_in p (bounded p Seen keep k) n f may) (run_in p (seeking p ss k) n f may)
  unfolding follow
  like_run zero f may = like_miss Equal Beyond tt
  like_run (suc n) f may =
      let call : Calls (bounded p Seen keep k) = λ site g vs. call_of p (bounded p Seen keep k) (run_in p (bounded p Seen keep k) n) site (slice_get p.functions g) vs in
      let other : Calls (seeking p ss k) = λ site g vs. call_of p (seeking p ss k) (run_in p (seeking p ss k) n) site (slice_get p.functions g) vs in
      related_body p follow follow_keeps call other
      (λ L site g vs ws may q. related_call p follow follow_keeps (run_in p (bounded p Seen keep k) n) (run_in p (seeking p ss k) n) site (slice_get p.functions g) (λ fn z. (all_fit_params p follow free fn.params, λ E y. like_run n fn)) L vs ws q)
      (λ L at result l may g t. like_scoped Equal _ _ (like_loop at l (turn p (bounded p Seen keep k) call result at l) (turn p (seeking p ss k) other result at l) g))
      f.result tt f.body (all_fit p follow free f.result tt f.body) may

  like_main : (n : ℕ) (f : Option Function) → Like Equal (run_if p (bounded p Seen keep k) n f true) (run_if p (seeking p ss k) n f true)
  like_main n None = like_ret Equal Next Next refl
  like_main n (Some f) = like_run n f true

  -- main as a part of a run
  abbrev pub main_bounded : State Seen → Result Flow
  main_bounded = run_if p (bounded p Seen keep k) (suc k) (slice_get p.functions p.main) true

  pub whole_takes : (w : List ℤ) → Takes Equal main_bounded (first_state p Seen [] (InTurn w) 0) w (SeekRun p ss k w)
  whole_takes w = (like_main (suc k) (slice_get p.functions p.main)).at (first_state p Seen [] (InTurn w) 0) w
