-- Each part of a run takes its steps, so no bound above the steps left is met.
use Rattle.std.proofs.Common.{◌≡◌, ℕ, zero, suc, ◌+◌, ◌-◌, ◌≤◌, ◌<◌, ℤ, pos, Bool, true, false, cond, List, [], ◌∷◌, length, take, Option, Some, None, refl, sym, ◌∙◌, ap, subst, arith, nat_le, not, slice_get, le_refl}
use Rattle.c_core.specs.Types.{fit, is_zero, number_of}
use Rattle.c_core.specs.Operators.{apply_of, apply_one_of}
use Rattle.c_core.specs.Tree.{Program, Function, Expr, Stm, Stmt}
use Rattle.c_core.specs.declared.number.IntType.{IntType}
use Rattle.c_core.specs.declared.number.Spot.{Spot}
use Rattle.c_core.specs.declared.number.Done.{Done}
use Rattle.c_core.specs.declared.number.Done.TheVariants.{Value, Overflow, Undefined as NoValue}
use Rattle.c_core.specs.declared.number.Property.{Property}
use Rattle.c_core.specs.declared.number.Property.TheVariants.{UnreachCall, NoOverflow}
use Rattle.c_meaning.specs.declared.run.End.{End}
use Rattle.c_meaning.specs.declared.run.End.TheVariants.{Undefined, Violated, Spent, Deep}
use Rattle.c_meaning.specs.declared.run.Event.TheVariants.{At, Branch, Enter, Return, Fail}
use Rattle.c_meaning.specs.declared.run.Way.TheVariants.{Truth}
use Rattle.c_meaning.specs.declared.run.DrawKind.{DrawKind}
use Rattle.c_meaning.specs.Cells.{Cell}
use Rattle.c_meaning.specs.Objects.{size_of_object, columns_of_object}
use Rattle.c_meaning.specs.Meaning.{Where, Site, Loop, WhileLoop, DoLoop, ForLoop, Calls}
use Rattle.c_meaning.specs.Acts.{Res, Go, Stop, Flow, Next, Broken, Again, Gave, bind, go_on, turned, continuing, held, given}
use Rattle.c_meaning.specs.Acts as acts
use Rattle.c_meaning.specs.Run as run
use Rattle.c_meaning.specs.Run.{State, Moment, Told, Here, Head, real, cell_among, arm_for, way_for, cells_of, with_cells, first_state, Whole}
use Rattle.c_meaning.specs.Exec.{body, turn, run_in, run_if}
use Rattle.c_meaning.specs.Fitting.{calls_in}
use Rattle.c_meaning.specs.Related.{Units, Same, Relation, Preserves, CallsPreserve}
use Rattle.c_meaning.proofs.Fundamental.{same_values, related_form, related_call, Free, all_fit_params, all_fit}
use Rattle.c_bounds.specs.Bounds.{Seen, keep, Act, Bounds, turns_to, bounded, AreNeverMet}

abbrev Result : Type 0 → Type 0
Result A = Res End (State Seen) A

abbrev Equal : {A : Type 0} → A → A → Type 0
Equal a b = a ≡ b

-- the same state with d more steps left, and with none
abbrev longer : ℕ → State Seen → State Seen
longer d s = record s { steps = d + s.steps }

abbrev at_zero : State Seen → State Seen
at_zero s = record s { steps = 0 }

with_all : (s : State Seen) → longer s.steps (at_zero s) ≡ s
with_all s = let e : s.steps + 0 ≡ s.steps = omega arith in ap (λ n. record s { steps = n }) e

with_none : (s : State Seen) → longer 0 s ≡ s
with_none s = let e : 0 + s.steps ≡ s.steps = omega arith in ap (λ n. record s { steps = n }) e

-- fewer than d steps are left, or at most n, with a value that some value is related to
abbrev Under : {A B : Type 0} → (A → B → Type 0) → ℕ → Result B → Type 0
Under {A = A} R d (Go b t) = ((a : A) × R a b) × (t.steps < d)
Under R d (Stop e t) = Unit {0}

abbrev Low : {A B : Type 0} → (A → B → Type 0) → ℕ → Result B → Type 0
Low {A = A} R n (Go b t) = ((a : A) × R a b) × (t.steps ≤ n)
Low R n (Stop e t) = Unit {0}

under_of : {A B : Type 0} (R : A → B → Type 0) (n d : ℕ) (r : Result B) → n < d → Low R n r → Under R d r
under_of R n d (Go b t) e h = (h.0, omega (arith, e, h.1))
under_of R n d (Stop x t) e h = tt

low_of : {A B : Type 0} (R : A → B → Type 0) (d : ℕ) (r : Result B) → Under R d r → Low R d r
low_of R d (Go b t) h = (h.0, omega (arith, h.1))
low_of R d (Stop x t) h = tt

-- of a part begun with n steps: with d more steps the other does the same, or goes on where the first was spent, with all but those d taken
data On (d n : ℕ) {A B : Type 0} (R : A → B → Type 0) : Result A → Result B → Type 0 where
  goes : (a : A) (b : B) (t : State Seen) → R a b → t.steps ≤ n → On d n R (Go a t) (Go b (longer d t))
  stops : (e : End) (t : State Seen) → On d n R (Stop e t) (Stop e (longer d t))
  was_spent : (t : State Seen) (r : Result B) → 0 < d → Under R d r → On d n R (Stop Spent t) r

on_from : {A B : Type 0} (d n m : ℕ) (R : A → B → Type 0) (r : Result A) (q : Result B) → n ≤ m → On d n R r q → On d m R r q
on_from d n m R _ _ e (goes a b t h l) = goes a b t h (omega (arith, e, l))
on_from d n m R _ _ e (stops x t) = stops x t
on_from d n m R _ _ e (was_spent t r z u) = was_spent t r z u

-- begun with no steps, it has taken all that it was given
on_low : {A B : Type 0} (d : ℕ) (R : A → B → Type 0) (r : Result A) (q : Result B) → On d 0 R r q → Low R d q
on_low d R _ _ (goes a b t h l) = ((a, h), omega (arith, l))
on_low d R _ _ (stops x t) = tt
on_low d R _ _ (was_spent t r z u) = low_of R d r u

on_spent : {A B : Type 0} (d n : ℕ) (R : A → B → Type 0) (r : Result A) (q : Result B) (t : State Seen) → On d n R r q → r ≡ Stop Spent t → Under R d q
on_spent d n R _ _ t (goes a b s h l) e = absurd (cc)
on_spent d n R _ _ t (stops x s) e = tt
on_spent d n R _ _ t (was_spent s r z u) e = u

-- where at most w steps are left
record Longer (w : ℕ) {A B : Type 0} (R : A → B → Type 0) (m : Act A) (k : Act B) : Type 0 where
  at : (d : ℕ) (s : State Seen) → d + s.steps ≤ w → On d s.steps R (m s) (k (longer d s))

low : {A B : Type 0} (w : ℕ) (R : A → B → Type 0) (m : Act A) (k : Act B) → Longer w R m k → (s : State Seen) → s.steps ≤ w → Low R s.steps (k s)
low w R m k g s l = subst (λ x. Low R s.steps (k x)) (with_all s) (on_low s.steps R (m (at_zero s)) (k (longer s.steps (at_zero s))) (g.at s.steps (at_zero s) (omega (arith, l))))

under_then : {A B C D : Type 0} (w d : ℕ) (R : A → B → Type 0) (Q : C → D → Type 0) (k : A → Act C) (l : B → Act D) → d ≤ w → ((a : A) (b : B) → R a b → Longer w Q (k a) (l b)) → (r : Result B) → Under R d r → Under Q d (bind r l)
under_then w d R Q k l e f (Go b t) u = under_of Q t.steps d (l b t) u.1 (low w Q (k u.0.0) (l b) (f u.0.0 b u.0.1) t (omega (arith, e, u.1)))
under_then w d R Q k l e f (Stop x t) u = tt

on_then : {A B C D : Type 0} (w d n : ℕ) (R : A → B → Type 0) (Q : C → D → Type 0) (k : A → Act C) (l : B → Act D) → d + n ≤ w → ((a : A) (b : B) → R a b → Longer w Q (k a) (l b)) → (r : Result A) (q : Result B) → On d n R r q → On d n Q (bind r k) (bind q l)
on_then w d n R Q k l e f _ _ (goes a b t h z) = on_from d t.steps n Q (k a t) (l b (longer d t)) z ((f a b h).at d t (omega (arith, e, z)))
on_then w d n R Q k l e f _ _ (stops x t) = stops x t
on_then w d n R Q k l e f _ _ (was_spent t r z u) = was_spent t (bind r l) z (under_then w d R Q k l (omega (arith, e)) f r u)

module _ (p : Program) (b : Bounds) (w : ℕ) where
  longer_then : {A B C D : Type 0} (R : A → B → Type 0) (Q : C → D → Type 0) (m : Act A) (n : Act B) (k : A → Act C) (l : B → Act D) → Longer w R m n → ((a : A) (b : B) → R a b → Longer w Q (k a) (l b)) → Longer w Q (λ s. bind (m s) k) (λ s. bind (n s) l)
  longer_then R Q m n k l g f = record { at = λ d s e. on_then w d s.steps R Q k l e f (m s) (n (longer d s)) (g.at d s e) }

  longer_ret : {A B : Type 0} (R : A → B → Type 0) (a : A) (b : B) → R a b → Longer w R (run.ret p Seen keep a) (run.ret p Seen keep b)
  longer_ret R a b h = record { at = λ d s e. goes a b s h (omega arith) }

  longer_stop : {A B : Type 0} (R : A → B → Type 0) (e : End) → Longer w R (run.stop p Seen keep {A = A} e) (run.stop p Seen keep {A = B} e)
  longer_stop R x = record { at = λ d s e. stops x s }

  longer_note : (f : List Cell → Moment) → Longer w Units (λ s. run.note p Seen keep (f s.cells) s) (λ s. run.note p Seen keep (f s.cells) s)
  longer_note f = record { at = λ d s e. goes tt tt (record s { seen = f s.cells ∷ s.seen }) tt (omega arith) }

  longer_noted : {A B : Type 0} (R : A → B → Type 0) (f : List Cell → Moment) (k : Act A) (l : Act B) → Longer w R k l → Longer w R (λ s. bind (run.note p Seen keep (f s.cells) s) (λ _. k)) (λ s. bind (run.note p Seen keep (f s.cells) s) (λ _. l))
  longer_noted R f k l g = longer_then Units R (λ s. run.note p Seen keep (f s.cells) s) (λ s. run.note p Seen keep (f s.cells) s) (λ _. k) (λ _. l) (longer_note f) (λ _ _ _. g)

  longer_cond : {A B : Type 0} (R : A → B → Type 0) (t : Bool) (x y : Act A) (x' y' : Act B) → Longer w R x x' → Longer w R y y' → Longer w R (λ s. cond t x y s) (λ s. cond t x' y' s)
  longer_cond R true x y x' y' g h = record { at = λ d s. g.at d s }
  longer_cond R false x y x' y' g h = record { at = λ d s. h.at d s }

  tick_on : (n d : ℕ) (s : State Seen) → On d n {A = Unit {0}} Units (run.tick_from p Seen keep n s) (run.tick_from p Seen keep (d + n) (longer d s))
  tick_on zero zero s = stops Spent s
  tick_on zero (suc d) s = let e : suc d + 0 ≡ suc d = omega arith in rw e (was_spent s (Go tt (record s { steps = d })) (omega arith) ((tt, tt), omega arith))
  tick_on (suc n) d s = let e : d + suc n ≡ suc (d + n) = omega arith in rw e (goes tt tt (record s { steps = n }) tt (omega arith))

  longer_tick : Longer w Units (λ s. run.tick_from p Seen keep s.steps s) (λ s. run.tick_from p Seen keep s.steps s)
  longer_tick = record { at = λ d s e. tick_on s.steps d s }

  room_on : (t : Bool) (d : ℕ) (s : State Seen) → On d s.steps {A = Unit {0}} Units (cond t (Go tt s) (Stop Deep s)) (cond t (Go tt (longer d s)) (Stop Deep (longer d s)))
  room_on true d s = goes tt tt s tt (omega arith)
  room_on false d s = stops Deep s

  longer_room : (n : ℕ) → Longer w Units (run.room p Seen keep n) (run.room p Seen keep n)
  longer_room n = record { at = λ d s e. room_on (nat_le (length s.cells + s.active + n) run.most_cells) d s }

  longer_draw : (kind : DrawKind) (spot : Spot) (ty : IntType) → Longer w Equal (run.draw p Seen keep kind spot ty) (run.draw p Seen keep kind spot ty)
  longer_draw kind spot ty = record { at = λ d s e. goes _ _ _ refl (omega arith) }

  longer_key : (spot : Spot) (o : ℕ) (i : Option ℕ) → Longer w Equal (run.key_of p Seen keep spot o i) (run.key_of p Seen keep spot o i)
  longer_key spot o None = longer_stop _ _
  longer_key spot o (Some i) = longer_ret _ _ _ refl

  longer_violated : {A B : Type 0} (R : A → B → Type 0) (at : Where) (spot : Spot) (call : Option Spot) → Longer w R (run.violated p Seen keep {A = A} at spot call) (run.violated p Seen keep {A = B} at spot call)
  longer_violated R at spot call = longer_noted R (Told (Fail at.statement at.full call)) (run.stop p Seen keep (Violated spot)) (run.stop p Seen keep (Violated spot)) (longer_stop R (Violated spot))

  longer_overflowed : (q : Property) (at : Where) (spot : Spot) (v : ℤ) → Longer w Equal (run.overflowed p Seen keep q at spot v) (run.overflowed p Seen keep q at spot v)
  longer_overflowed NoOverflow at spot v = longer_violated _ at spot None
  longer_overflowed UnreachCall at spot v = longer_ret _ _ _ refl

  longer_answered : (at : Where) (spot : Spot) (x : Done) → Longer w Equal (run.answered p Seen keep at spot x) (run.answered p Seen keep at spot x)
  longer_answered at spot (Value v) = longer_ret _ _ _ refl
  longer_answered at spot (Overflow v) = longer_overflowed p.property at spot v
  longer_answered at spot NoValue = longer_stop _ _

  longer_reached : (q : Property) (at : Where) (site : Site) → Longer w Equal (run.reached p Seen keep q at site) (run.reached p Seen keep q at site)
  longer_reached UnreachCall at site = longer_violated _ at site.spot (Some site.spot)
  longer_reached NoOverflow at site = longer_stop _ _

  longer_branched : {A B : Type 0} (R : A → B → Type 0) (spot : Spot) (t : Bool) (x y : Act A) (x' y' : Act B) → Longer w R x x' → Longer w R y y' → Longer w R (run.branched p Seen keep spot t x y) (run.branched p Seen keep spot t x' y')
  longer_branched R spot t x y x' y' g h = longer_noted R (Told (Branch spot (Truth t))) (λ s. cond t x y s) (λ s. cond t x' y' s) (longer_cond R t x y x' y' g h)

  longer_returned : (site : Site) (v : Option ℤ) → Longer w Equal (run.returned p Seen keep site v) (run.returned p Seen keep site v)
  longer_returned site (Some v) = longer_noted Equal (Told (Return site.close (Some v))) (run.ret p Seen keep v) (run.ret p Seen keep v) (longer_ret Equal v v refl)
  longer_returned site None =
      longer_noted Equal (Told (Return site.close None)) (λ s. cond site.needed (run.stop p Seen keep (Undefined site.spot)) (run.ret p Seen keep (pos 0)) s) (λ s. cond site.needed (run.stop p Seen keep (Undefined site.spot)) (run.ret p Seen keep (pos 0)) s)
      (longer_cond Equal site.needed _ _ _ _ (longer_stop Equal (Undefined site.spot)) (longer_ret Equal (pos 0) (pos 0) refl))

  cut_under : {A B : Type 0} (R : A → B → Type 0) (d n : ℕ) (r : Result B) → Under R d r → Under R d (acts.cut End (State Seen) cells_of with_cells n r)
  cut_under R d n (Go y t) u = u
  cut_under R d n (Stop e t) u = u

  cut_on : {A B : Type 0} (R : A → B → Type 0) (d m n : ℕ) (r : Result A) (q : Result B) → On d m R r q → On d m R (acts.cut End (State Seen) cells_of with_cells n r) (acts.cut End (State Seen) cells_of with_cells n q)
  cut_on R d m n _ _ (goes x y t h e) = goes x y (with_cells (take n t.cells) t) h e
  cut_on R d m n _ _ (stops e t) = stops e t
  cut_on R d m n _ _ (was_spent t r z u) = was_spent t _ z (cut_under R d n r u)

  longer_scoped : {A B : Type 0} (R : A → B → Type 0) (m : Act A) (k : Act B) → Longer w R m k → Longer w R (acts.scoped End (State Seen) cells_of with_cells m) (acts.scoped End (State Seen) cells_of with_cells k)
  longer_scoped R m k g = record { at = λ d s e. cut_on R d s.steps (length s.cells) (m s) (k (longer d s)) (g.at d s e) }

  longer_go_on : (m k : Act Flow) → Longer w Equal m k → (f : Flow) → Longer w Equal (go_on m f) (go_on k f)
  longer_go_on m k g Next = record { at = λ d s. g.at d s }
  longer_go_on m k g Broken = longer_ret Equal Broken Broken refl
  longer_go_on m k g Again = longer_ret Equal Again Again refl
  longer_go_on m k g (Gave v) = longer_ret Equal (Gave v) (Gave v) refl

  -- a loop whose turn takes a step
  module _ (at : Spot) (l : Loop) (arrived : List Cell) (m k : Act Flow) (g : Longer w Equal m k) (spent : (s : State Seen) → m (at_zero s) ≡ Stop Spent (at_zero s)) where
    takes : (s : State Seen) → s.steps ≤ w → Under Equal s.steps (k s)
    takes s e =
        subst (λ x. Under Equal s.steps (k x)) (with_all s)
        (on_spent s.steps 0 Equal (m (at_zero s)) (k (longer s.steps (at_zero s))) (at_zero s) (g.at s.steps (at_zero s) (omega (arith, e))) (spent s))

    abbrev first_turns : ℕ → Act Flow
    first_turns n = run.turns p Seen keep n at l arrived m

    abbrev other_turns : ℕ → Act Flow
    other_turns n = turns_to p b.no_turn_left n at l arrived k

    -- fewer steps are left than turns
    abbrev TurnsOn : ℕ → Type 0
    TurnsOn n' = (n d : ℕ) (s : State Seen) → s.steps < n → d + s.steps < n' → d + s.steps ≤ w → On d s.steps Equal (first_turns n s) (other_turns n' (longer d s))

    turns_low : (n : ℕ) → TurnsOn n → (s : State Seen) → s.steps < n → s.steps ≤ w → Low Equal s.steps (other_turns n s)
    turns_low n h s e f = subst (λ x. Low Equal s.steps (other_turns n x)) (with_all s) (on_low s.steps Equal (first_turns 1 (at_zero s)) (other_turns n (longer s.steps (at_zero s))) (h 1 s.steps (at_zero s) (omega arith) (omega (arith, e)) (omega (arith, f))))

    under_turned : (n d : ℕ) → TurnsOn n → d ≤ n → d ≤ w → (r : Result Flow) → Under Equal d r → Under Equal d (bind r (turned (other_turns n)))
    under_turned n d h e f (Stop x t) u = tt
    under_turned n d h e f (Go Next t) u = under_of Equal t.steps d (other_turns n t) u.1 (turns_low n h t (omega (arith, e, u.1)) (omega (arith, f, u.1)))
    under_turned n d h e f (Go Broken t) u = ((Next, refl), u.1)
    under_turned n d h e f (Go Again t) u = ((Again, refl), u.1)
    under_turned n d h e f (Go (Gave v) t) u = ((Gave v, refl), u.1)

    same_flow : (n n' d : ℕ) (f : Flow) (i : ℕ) (t : State Seen) → TurnsOn n' → t.steps ≤ i → t.steps < n → d + t.steps < n' → d + t.steps ≤ w → On d i Equal (turned (first_turns n) f t) (turned (other_turns n') f (longer d t))
    same_flow n n' d Next i t h e x y z = on_from d t.steps i Equal (first_turns n t) (other_turns n' (longer d t)) e (h n d t x y z)
    same_flow n n' d Broken i t h e x y z = goes Next Next t refl e
    same_flow n n' d Again i t h e x y z = goes Again Again t refl e
    same_flow n n' d (Gave v) i t h e x y z = goes (Gave v) (Gave v) t refl e

    turn_on : (n n' d i : ℕ) → TurnsOn n' → i ≤ n → d + i ≤ n' → d + i ≤ w → (r q : Result Flow) → On d i Equal r q → Under Equal (d + i) q → On d i Equal (bind r (turned (first_turns n))) (bind q (turned (other_turns n')))
    turn_on n n' d i h x y z _ _ (goes f f' t e le) u =
        subst (λ c. On d i Equal (turned (first_turns n) f t) (turned (other_turns n') c (longer d t))) e
        (same_flow n n' d f i t h le (omega (arith, x, u.1)) (omega (arith, y, u.1)) (omega (arith, z, le)))
    turn_on n n' d i h x y z _ _ (stops e t) u = stops e t
    turn_on n n' d i h x y z _ _ (was_spent t r o v) u = was_spent t (bind r (turned (other_turns n'))) o (under_turned n' d h (omega (arith, y)) (omega (arith, z)) r v)

    turns_on : (n' : ℕ) → TurnsOn n'
    turns_on zero n d s e f z = absurd (omega (arith, f))
    turns_on (suc n') zero d s e f z = absurd (omega (arith, e))
    turns_on (suc n') (suc n) d s e f z =
        let t : State Seen = record s { seen = Head at l arrived s.cells ∷ s.seen } in
        turn_on n n' d s.steps (turns_on n') (omega (arith, e)) (omega (arith, f)) z (m t) (k (longer d t)) (g.at d t z) (takes (longer d t) z)

  longer_loop : (at : Spot) (l : Loop) (m k : Act Flow) → Longer w Equal m k → ((s : State Seen) → m (at_zero s) ≡ Stop Spent (at_zero s)) → Longer w Equal (run.loop p Seen keep at l m) (λ s. turns_to p b.no_turn_left (b.turns s.steps) at l s.cells k s)
  longer_loop at l m k g h = record { at = λ d s e. turns_on at l s.cells m k g h (b.turns (d + s.steps)) (suc s.steps) d s (omega arith) (b.enough (d + s.steps)) e }

  longer_active : (f : ℕ → ℕ) → Longer w Units (λ s. Go tt (record s { active = f s.active })) (λ s. Go tt (record s { active = f s.active }))
  longer_active f = record { at = λ d s e. goes tt tt (record s { active = f s.active }) tt (omega arith) }

  longer_called : (site : Site) (m k : Act Flow) → Longer w Equal m k → Longer w Equal (run.called p Seen keep site m) (run.called p Seen keep site k)
  longer_called site m k g =
      longer_then Units Equal _ _ _ _ (longer_active (λ n. suc n)) (λ _ _ _. longer_then Equal Equal _ _ _ _ (longer_scoped Equal m k g) (λ f f' e. back f f' e))
    where
      back : (f f' : Flow) → f ≡ f' → Longer w Equal (λ s. bind (run.shallower p Seen keep s) (λ _. run.returned p Seen keep site (given f))) (λ s. bind (run.shallower p Seen keep s) (λ _. run.returned p Seen keep site (given f')))
      back f f' e = rw e (longer_then Units Equal _ _ _ _ (longer_active (λ n. n - 1)) (λ _ _ _. longer_returned site (given f')))

  same_bounds : Relation (real p Seen keep) (bounded p b)
  same_bounds = record {
    Scope = Unit {0};
    more = λ L o. L;
    Entry = λ L. Unit {0};
    Values = λ ty v u. v ≡ u;
    Truths = λ t u. t ≡ u;
    Targets = λ o x y. x ≡ y;
    Acts = λ L R m k. Longer w R m k;
    Dones = λ ty L M x y. Longer w Equal x y;
    Agree = λ x y. Unit {0};
    IsConst = λ ty v. Unit {0};
    HasCell = λ o i. Unit {0};
    HasSize = λ o n. Unit {0};
    MayRead = λ L o. Unit {0};
    MayWrite = λ L o. Unit {0};
    MayCall = λ f. Unit {0};
    MayLoop = λ L at l. Unit {0};
  }

  bounds_keep : Preserves p same_bounds
  unfolding same_bounds
  bounds_keep = record {
    ret = λ L R x y q. longer_ret R x y q;
    bind = λ L R Q m n k l g f. longer_then R Q m n k l g f;
    using = λ ty L M R m n k l g f. longer_then R Equal m n k l g f;
    tick = λ L t. longer_tick;
    room = λ L n. longer_room n;
    retype = λ x y v u _ q. q;
    retyped = λ L x y m n _ q. q;
    const = λ ty v _. refl;
    digit = λ t. refl;
    convert = λ L from to v u q. longer_ret _ _ _ (ap (fit p.model to) q);
    test = λ L ty v u q. longer_ret _ _ _ (ap (λ x. not (is_zero x)) q);
    truth = λ t u q. ap number_of q;
    draw = λ L kind spot ty. longer_draw kind spot ty;
    cell = λ o i _. refl;
    element = λ L spot o vs us q. rw (same_values vs us q) (longer_key spot o (cell_among (size_of_object p o) (columns_of_object p o) us));
    look = λ L o x y _ q. rw q (record { at = λ d s e. goes _ _ _ refl (le_refl s.steps) });
    write = λ L o x y v u m t q. rw (t, q) (record { at = λ d s e. goes _ _ _ tt (le_refl s.steps) });
    answer = λ L at spot op ty x x' right y y' q r. rw (q, r) (longer_answered at spot (apply_of p.model op ty x' y'));
    answer_one = λ L at spot op ty x x' q. rw q (longer_answered at spot (apply_one_of p.model op ty x'));
    choose = λ ty L t u x x' y y' q g h. rw q (longer_cond Equal u x y x' y' g h);
    pick = λ ty L mark t u x x' y y' q g h. rw q (longer_branched Equal mark u x y x' y' g h);
    enter = λ L site. longer_note (Told (Enter site.close));
    came_back = λ L site ty v u q. rw q (longer_note (Told (Return site.close (Some u))));
    reach = λ L at site. longer_reached p.property at site;
    ending = λ L. longer_stop _ _;
    called = λ ty L site x y end g. longer_called site x y (g tt tt);
    missing = λ L. longer_stop _ _;
    here = λ L at. longer_noted Units (Here at) (run.tell p Seen keep (At at)) (run.tell p Seen keep (At at)) (longer_note (Told (At at)));
    declare = λ ty L o n _. record { at = λ d s e. goes _ _ _ refl (le_refl s.steps) };
    own = λ L o. tt;
    branch = λ ty L M at t u x x' y y' q g h. rw q (longer_branched Equal at u x y x' y' g h);
    select = λ L at ty v w ls q. rw q (longer_noted Same (Told (Branch at (way_for w ls))) (run.ret p Seen keep (arm_for w ls)) (run.ret p Seen keep (arm_for w ls)) (longer_ret Same (arm_for w ls) (arm_for w ls) refl));
    next = λ ty L. longer_ret _ _ _ refl;
    leave = λ ty L. longer_ret _ _ _ refl;
    again = λ ty L. longer_ret _ _ _ refl;
    give = λ ty L v u q. longer_ret _ _ _ (ap (λ x. Gave (Some x)) q);
    give_none = λ ty L q. longer_ret _ _ _ refl;
    seq = λ ty L M N x x' y y' g h. longer_then Equal Equal _ _ _ _ g (λ f f' e. rw e (longer_go_on y y' h f'));
    scoped = λ ty L M x y g. longer_scoped Equal x y g;
    continued = λ ty L M x y g. longer_then Equal Equal _ _ _ _ (longer_scoped Equal x y g) (λ f f' e. longer_ret Equal _ _ (ap continuing e));
    breaks = λ ty L M x y g. longer_then Equal Equal _ _ _ _ (longer_scoped Equal x y g) (λ f f' e. longer_ret Equal _ _ (ap held e));
  }

  free : Free same_bounds
  unfolding same_bounds
  free = record {
    agree = λ x y. tt;
    const = λ ty v. tt;
    cell = λ o i. tt;
    size = λ o n. tt;
    read = λ L o. tt;
    write = λ L o. tt;
    call = λ f. tt;
    loop = λ L at l. tt;
  }

-- a turn takes a step first
no_turn : (p : Program) (c : Calls (real p Seen keep)) (result : Option IntType) (at : Spot) (l : Loop) (s : State Seen) → turn p (real p Seen keep) c result at l (at_zero s) ≡ Stop Spent (at_zero s)
no_turn p c result at (WhileLoop (Expr spot ty n) x) s = refl
no_turn p c result at (DoLoop (Stmt spot f) e) s = refl
no_turn p c result at (ForLoop None z (Stmt spot f)) s = refl
no_turn p c result at (ForLoop (Some (Expr spot ty n)) z x) s = refl

module _ (p : Program) (b : Bounds) where
  -- behind a step fewer are left
  abbrev Before : ℕ → Act Flow → Act Flow → Type 0
  Before zero m k = Unit {0}
  Before (suc v) m k = Longer v Equal m k

  after_tick : (w : ℕ) (m k : Act Flow) → Before w m k → Longer w Equal (λ s. bind (run.tick_from p Seen keep s.steps s) (λ _. m)) (λ s. bind (run.tick_from p Seen keep s.steps s) (λ _. k))
  after_tick w m k h = record { at = λ d s e. by w h s.steps d s e }
    where
      by : (w : ℕ) → Before w m k → (n d : ℕ) (s : State Seen) → d + n ≤ w → On d n Equal (bind (run.tick_from p Seen keep n s) (λ _. m)) (bind (run.tick_from p Seen keep (d + n) (longer d s)) (λ _. k))
      by w h zero zero s e = stops Spent s
      by zero h zero (suc d) s e = absurd (omega (arith, e))
      by (suc v) h zero (suc d) s e = let t : State Seen = record s { steps = d } in let q : suc d + 0 ≡ suc d = omega arith in rw q (was_spent s (k t) (omega arith) (under_of Equal d (suc d) (k t) (omega arith) (low v Equal m k h t (omega (arith, e)))))
      by zero h (suc n) d s e = absurd (omega (arith, e))
      by (suc v) h (suc n) d s e = let t : State Seen = record s { steps = n } in let q : d + suc n ≡ suc (d + n) = omega arith in rw q (on_from d n (suc n) Equal (m t) (k (longer d t)) (omega arith) (h.at d t (omega (arith, e))))

  no_body : (c : Calls (real p Seen keep)) (c' : Calls (bounded p b)) (result : Option IntType) (x : Stm) → Longer zero Equal (body p (real p Seen keep) c result x) (body p (bounded p b) c' result x)
  no_body c c' result (Stmt at f) = after_tick zero _ _ tt

  one_body : (v : ℕ) (c : Calls (real p Seen keep)) (c' : Calls (bounded p b)) → CallsPreserve p (same_bounds p b v) c c' → (result : Option IntType) (x : Stm) → Longer (suc v) Equal (body p (real p Seen keep) c result x) (body p (bounded p b) c' result x)
  unfolding same_bounds
  one_body v c c' h result (Stmt at f) =
      after_tick (suc v) _ _ (related_form p (same_bounds p b v) (bounds_keep p b v) c c' h
      (λ L at result l may g. longer_scoped p b v Equal _ _ (longer_loop p b v at l _ _ g (no_turn p c result at l)))
      result tt at f (all_fit p (same_bounds p b v) (free p b v) result tt (Stmt at f)))

  -- calls at most n deep, and at most k deep
  bodies : (w n k : ℕ) → w < n → w < k → (f : Function) → Longer w Equal (run_in p (real p Seen keep) n f) (run_in p (bounded p b) k f)
  unfolding same_bounds
  bodies w zero k e h f = absurd (omega (arith, e))
  bodies w (suc n) zero e h f = absurd (omega (arith, h))
  bodies zero (suc n) (suc k) e h f = no_body (calls_in p (real p Seen keep) n) (calls_in p (bounded p b) k) f.result f.body
  bodies (suc v) (suc n) (suc k) e h f =
      one_body v (calls_in p (real p Seen keep) n) (calls_in p (bounded p b) k) (λ L site g vs ws may q. related_call p (same_bounds p b v) (bounds_keep p b v) (run_in p (real p Seen keep) n) (run_in p (bounded p b) k) site (slice_get p.functions g)
      (λ fn z. (all_fit_params p (same_bounds p b v) (free p b v) fn.params, λ E y. bodies v n k (omega (arith, e)) (omega (arith, h)) fn)) L vs ws q)
      f.result f.body

  on_equal : (n : ℕ) (r q : Result Flow) → On 0 n Equal r q → q ≡ r
  on_equal n _ _ (goes x y t h e) = ap (λ s. Go y s) (with_none t) ∙ ap (λ z. Go z t) (sym h)
  on_equal n _ _ (stops e t) = ap (λ s. Stop e s) (with_none t)
  on_equal n _ _ (was_spent t r z u) = absurd (omega (arith, z))

  same_body : (n k : ℕ) (f : Function) (s : State Seen) → s.steps < n → s.steps < k → run_in p (bounded p b) k f s ≡ run_in p (real p Seen keep) n f s
  same_body n k f s e h =
      ap (run_in p (bounded p b) k f) (sym (with_none s))
      ∙ on_equal s.steps (run_in p (real p Seen keep) n f s) (run_in p (bounded p b) k f (longer 0 s)) ((bodies s.steps n k e h f).at 0 s (omega arith))

  same_if : (n k : ℕ) (o : Option Function) (s : State Seen) → s.steps < n → s.steps < k → run_if p (bounded p b) k o s ≡ run_if p (real p Seen keep) n o s
  same_if n k None s e h = refl
  same_if n k (Some f) s e h = same_body n k f s e h

pub never_met : (p : Program) → AreNeverMet p
never_met p = record {
  body = λ b n k f s e h. same_body p b n k f s e h;
  run = λ b k c N e. same_if p b (suc N) k (slice_get p.functions p.main) (first_state p Seen [] c N) (omega arith) e;
}
