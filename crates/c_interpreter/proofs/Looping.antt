-- Loops, turn by turn.
use Rattle.std.proofs.Common.{◌≡◌, ◌<◌, ℕ, zero, suc, Bool, true, false, cond, List, Option, Some, None, Result, Ok, Err, length, refl, sym, ap, subst, ◌∙◌, arith}
use Rattle.c_core.specs.Tree as t
use Rattle.c_core.specs.Tree.{Program, Exp, First, NoFirst, FirstExp, FirstNames}
use Rattle.c_core.specs.declared.number.IntType.{IntType}
use Rattle.c_core.specs.declared.number.Spot.{Spot}
use Rattle.c_meaning.specs.declared.run.End.{End}
use Rattle.c_meaning.specs.declared.run.Event.{Event}
use Rattle.c_meaning.specs.Cells.{Cell}
use Rattle.c_meaning.specs.Meaning.{Used, Unused, Loop, WhileLoop, DoLoop, ForLoop}
use Rattle.c_meaning.specs.Acts as acts
use Rattle.c_meaning.specs.Acts.{Go, cut}
use Rattle.c_meaning.specs.Exec.{first}
use Rattle.run_state.specs.Ways as wy
use Rattle.run_state.specs.Ways.{Ran, bound}
use Rattle.c_meaning.specs.Run.{State, cells_of, with_cells}
use Rattle.c_meaning.specs.Watching.{seen_by}
use Rattle.run_state.specs.Interpreting.{Gives, same, flow_of, watched, done, calls, fulled, decided, formed, declaring, loop_in, bodied, test_turned, goes_on, for_rest, while_turned, for_turned, turning, rounds, looped, begun, for_looped}
use Rattle.run_state.specs.declared.machine.Halt.{Halt}
use Rattle.run_state.specs.declared.machine.Halt.TheVariants.{Ends, NoMemory}
use Rattle.run_state.specs.declared.machine.Flow.{Flow}
use Rattle.run_state.specs.declared.machine.Flow.TheVariants.{Next, Broken, Again, Gave}
use Rattle.run_state.proofs.Giving.{Behind, left_behind, halted_behind, bound_on, bound_alike}
use Rattle.c_interpreter.proofs.Executing.{control_goes, control_halts, untested}

module _ (p : Program) (S : Type 0) (after : Event → List Cell → S → S) (n : ℕ) where
  -- parts alike behind a part
  same_turns : (r : Ran S acts.Flow) (k l : State S → Ran S acts.Flow) → ((u : State S) → k u ≡ l u) → bound r (wy.turned p S (seen_by after) k) ≡ bound r (wy.turned p S (seen_by after) l)
  same_turns r k l h = bound_alike r _ _ by
    where
      by : (f : acts.Flow) (u : State S) → wy.turned p S (seen_by after) k f u ≡ wy.turned p S (seen_by after) l f u
      by acts.Next u = h u
      by acts.Broken u = refl
      by acts.Again u = refl
      by (acts.Gave v) u = refl

  same_behind : (r : Ran S acts.Flow) (k l : State S → Ran S acts.Flow) → ((u : State S) → k u ≡ l u) → bound r (wy.go_on p S (seen_by after) k) ≡ bound r (wy.go_on p S (seen_by after) l)
  same_behind r k l h = bound_alike r _ _ by
    where
      by : (f : acts.Flow) (u : State S) → wy.go_on p S (seen_by after) k f u ≡ wy.go_on p S (seen_by after) l f u
      by acts.Next u = h u
      by acts.Broken u = refl
      by acts.Again u = refl
      by (acts.Gave v) u = refl

  same_after : {A : Type 0} (r : Ran S A) (k l : State S → Ran S acts.Flow) → ((u : State S) → k u ≡ l u) → bound r (λ _. k) ≡ bound (bound r (λ _ u. done p S after acts.Next u)) (wy.go_on p S (seen_by after) l)
  same_after r k l h = bound_alike r _ _ (λ _ u. h u) ∙ sym (bound_on r (λ _ u. done p S after acts.Next u) (wy.go_on p S (seen_by after) l))

  pub test_done : (at : Spot) (e : Exp) (c : Bool) (s u : State S) → Gives same (Ok c) u (decided p S after n at e s)
      → (test_turned p S after n at e s).result ≡ cond c (Go acts.Next u) (Go acts.Broken u)
  test_done at e true s u h = control_goes p S after n at (fulled p S after n at Used e s) (watched p S after).next (watched p S after).leave true u (Ok Next) u h refl
  test_done at e false s u h = control_goes p S after n at (fulled p S after n at Used e s) (watched p S after).next (watched p S after).leave false u (Ok Broken) u h refl

  pub test_halts : (at : Spot) (e : Exp) (s u : State S) (h : Halt) → Gives same (Err h) u (decided p S after n at e s) → Gives flow_of (Err h) u (test_turned p S after n at e s)
  test_halts at e s u h g = control_halts p S after n at (fulled p S after n at Used e s) (watched p S after).next (watched p S after).leave h u g

  module _ (w : Option IntType) (at : Spot) where
    pub while_chosen : (e : Exp) (x : t.Stm) (c : Bool) (s u : State S) (q : Result Flow Halt) (v : State S) → Gives same (Ok c) u (decided p S after n at e s)
        → Gives flow_of q v (cond c (bodied p S after n w x) (watched p S after).leave u) → Gives flow_of q v (while_turned p S after n w at e x s)
    while_chosen e x c s u q v h g = control_goes p S after n at (fulled p S after n at Used e s) (bodied p S after n w x) (watched p S after).leave c u q v h g

    pub while_halts : (e : Exp) (x : t.Stm) (s u : State S) (h : Halt) → Gives same (Err h) u (decided p S after n at e s) → Gives flow_of (Err h) u (while_turned p S after n w at e x s)
    while_halts e x s u h g = control_halts p S after n at (fulled p S after n at Used e s) (bodied p S after n w x) (watched p S after).leave h u g

    pub for_chosen : (e step : Option Exp) (x : t.Stm) (c : Bool) (s u : State S) (q : Result Flow Halt) (v : State S) → Gives same (Ok c) u (goes_on p S after n at e s)
        → Gives flow_of q v (cond c (for_rest p S after n w at step x) (watched p S after).leave u) → Gives flow_of q v (for_turned p S after n w at e step x s)
    for_chosen None step x c s u q v h g = subst (Gives flow_of q v) (sym (untested p S after n at c s u (λ b y. cond b (for_rest p S after n w at step x) (watched p S after).leave y) h)) g
    for_chosen (Some e) step x c s u q v h g = control_goes p S after n at (fulled p S after n at Used e s) (for_rest p S after n w at step x) (watched p S after).leave c u q v h g

    pub for_halts : (e step : Option Exp) (x : t.Stm) (s u : State S) (h : Halt) → Gives same (Err h) u (goes_on p S after n at e s) → Gives flow_of (Err h) u (for_turned p S after n w at e step x s)
    for_halts None step x s u NoMemory g = elim g [ ]
    for_halts None step x s u (Ends d) g = absurd (cc)
    for_halts (Some e) step x s u h g = control_halts p S after n at (fulled p S after n at Used e s) (for_rest p S after n w at step x) (watched p S after).leave h u g

    -- what is left of the turns does what the whole does
    module _ (l : Option Loop) (s u : State S) (whole : Ran S acts.Flow) where
      abbrev left_to_turn : ℕ → Type 0
      left_to_turn k = Behind (rounds p S after k n w at l s) whole

      abbrev turn_gave : Flow → Type 0
      turn_gave f = Gives flow_of (Ok f) u (turning p S after n w at l s)

      abbrev next_turns : ℕ → acts.Flow → State S → Ran S acts.Flow
      next_turns k = wy.turned p S (seen_by after) (rounds p S after k n w at l)

      pub rounds_halted : (k : ℕ) (h : Halt) → s.steps < k → left_to_turn k → Gives flow_of (Err h) u (turning p S after n w at l s) → Gives flow_of (Err h) u whole
      rounds_halted zero h m r g = absurd (omega arith)
      rounds_halted (suc k) h m r g = halted_behind flow_of flow_of h u (turning p S after n w at l s) (next_turns k) whole r g

      left_by : (k : ℕ) (f : Flow) → (f ≡ Next → ⊥) → (f ≡ Broken → ⊥) → (next_turns k (flow_of f) u).result ≡ Go (flow_of f) u
      left_by k Next a b = absurd (a refl)
      left_by k Broken a b = absurd (b refl)
      left_by k Again a b = refl
      left_by k (Gave v) a b = refl

      pub rounds_left : (k : ℕ) (f : Flow) → s.steps < k → left_to_turn k → turn_gave f → (f ≡ Next → ⊥) → (f ≡ Broken → ⊥) → Gives flow_of (Ok f) u whole
      rounds_left zero f m r g a b = absurd (omega arith)
      rounds_left (suc k) f m r g a b = sym (left_behind flow_of f u (turning p S after n w at l s) (next_turns k) whole g r).result ∙ left_by k f a b

      pub rounds_broken : (k : ℕ) → s.steps < k → left_to_turn k → turn_gave Broken → Gives flow_of (Ok Next) u whole
      rounds_broken zero m r g = absurd (omega arith)
      rounds_broken (suc k) m r g = sym (left_behind flow_of Broken u (turning p S after n w at l s) (next_turns k) whole g r).result

      -- a turn takes a step, so one turn fewer is enough behind it
      pub rounds_on : (k : ℕ) → s.steps < k → left_to_turn k → turn_gave Next → u.steps < s.steps → (j : ℕ) × (u.steps < j) × Behind (rounds p S after j n w at l u) whole
      rounds_on zero m r g d = absurd (omega arith)
      rounds_on (suc k) m r g d =
          let less : u.steps < k = omega arith in
          (k, less, left_behind flow_of Next u (turning p S after n w at l s) (next_turns k) whole g r)

    -- a head is no event
    turns_are : (k : ℕ) (l : Loop) (arrived : List Cell) (s : State S)
        → wy.turns p S (seen_by after) k at l arrived (turning p S after n w at (Some l)) s ≡ rounds p S after k n w at (Some l) s
    turns_are zero l arrived s = refl
    turns_are (suc k) l arrived s =
        same_turns (turning p S after n w at (Some l) s) (wy.turns p S (seen_by after) k at l arrived (turning p S after n w at (Some l))) (rounds p S after k n w at (Some l)) (turns_are k l arrived)

    loop_is : (l : Loop) (s : State S)
        → wy.scoped p S (seen_by after) (wy.loop p S (seen_by after) at l (turning p S after n w at (Some l))) s ≡ looped p S after n w at (Some l) s
    loop_is l s = ap (λ q. record { result = cut End (State S) cells_of with_cells (length s.cells) q.result; way = q.way }) (turns_are (suc s.steps) l s.cells s)

    first_is : (i : First) (k l : State S → Ran S acts.Flow) → ((u : State S) → k u ≡ l u) → (s : State S)
        → first p (watched p S after) (calls p S after n) at i k s ≡ bound (begun p S after n at i s) (wy.go_on p S (seen_by after) l)
    first_is NoFirst k l h s = h s
    first_is (FirstExp e) k l h s = same_after (fulled p S after n at Unused e s) k l h
    first_is (FirstNames ns) k l h s = same_behind (declaring p S after n at ns s) k l h

    -- the forms that are loops
    pub while_given : (f : t.Form) (e : Exp) (x : t.Stm) → f ≡ t.While e x → (r : Result Flow Halt) (s u : State S)
        → Gives flow_of r u (looped p S after n w at (loop_in f) s) → Gives flow_of r u (formed p S after n w at f s)
    while_given f e x is r s u = subst (λ y. Gives flow_of r u (looped p S after n w at (loop_in y) s) → Gives flow_of r u (formed p S after n w at y s)) (sym is)
        (subst (Gives flow_of r u) (sym (loop_is (WhileLoop e x) s)))

    pub do_given : (f : t.Form) (x : t.Stm) (e : Exp) → f ≡ t.DoWhile x e → (r : Result Flow Halt) (s u : State S)
        → Gives flow_of r u (looped p S after n w at (loop_in f) s) → Gives flow_of r u (formed p S after n w at f s)
    do_given f x e is r s u = subst (λ y. Gives flow_of r u (looped p S after n w at (loop_in y) s) → Gives flow_of r u (formed p S after n w at y s)) (sym is)
        (subst (Gives flow_of r u) (sym (loop_is (DoLoop x e) s)))

    for_is : (i : First) (e step : Option Exp) (x : t.Stm) (s : State S) → formed p S after n w at (t.For i e step x) s ≡ for_looped p S after n w at i (Some (ForLoop e step x)) s
    for_is i e step x s =
        ap (λ q. record { result = cut End (State S) cells_of with_cells (length s.cells) q.result; way = q.way })
        (first_is i (wy.scoped p S (seen_by after) (wy.loop p S (seen_by after) at (ForLoop e step x) (turning p S after n w at (Some (ForLoop e step x)))))
        (looped p S after n w at (Some (ForLoop e step x))) (loop_is (ForLoop e step x)) s)

    pub for_given : (f : t.Form) (i : First) (e step : Option Exp) (x : t.Stm) → f ≡ t.For i e step x → (r : Result Flow Halt) (s u : State S)
        → Gives flow_of r u (for_looped p S after n w at i (loop_in f) s) → Gives flow_of r u (formed p S after n w at f s)
    for_given f i e step x is r s u = subst (λ y. Gives flow_of r u (for_looped p S after n w at i (loop_in y) s) → Gives flow_of r u (formed p S after n w at y s)) (sym is)
        (subst (Gives flow_of r u) (sym (for_is i e step x s)))
