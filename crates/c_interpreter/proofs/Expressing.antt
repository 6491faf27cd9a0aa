-- Parts that end with another part, or halt in it.
use Rattle.std.proofs.Common.{◌≡◌, ℕ, suc, ◌-◌, not, Bool, true, false, ℤ, List, Option, Some, None, Result, Ok, Err, length, take, refl, ap}
use Rattle.c_core.specs.Tree.{Program, Exp, Function, Index, Unary, Binary, Logic, Choose, Comma, Assign, Step}
use Rattle.c_core.specs.Tree as t
use Rattle.c_core.specs.Types.{is_zero}
use Rattle.c_core.specs.Operators.{computed_one}
use Rattle.c_core.specs.declared.number.IntType.{IntType}
use Rattle.c_core.specs.declared.number.Spot.{Spot}
use Rattle.c_core.specs.declared.number.BinOp.{BinOp}
use Rattle.c_core.specs.declared.number.UnOp.{UnOp}
use Rattle.c_core.specs.declared.number.StepOp.{StepOp}
use Rattle.c_meaning.specs.declared.run.End.{End}
use Rattle.c_meaning.specs.declared.run.Event.{Event}
use Rattle.c_meaning.specs.Cells.{Cell, read}
use Rattle.c_meaning.specs.Meaning.{Used, Unused, Where, Site}
use Rattle.c_meaning.specs.Objects.{type_of, size_of_object}
use Rattle.c_meaning.specs.Acts.{given}
use Rattle.c_meaning.specs.Acts as acts
use Rattle.c_meaning.specs.Eval.{operate, store}
use Rattle.c_meaning.specs.Run as run
use Rattle.c_meaning.specs.Run.{State, cells_of, with_cells}
use Rattle.c_meaning.specs.Watching.{seen_by}
use Rattle.run_state.specs.Ways as w
use Rattle.run_state.specs.Ways.{Ran, bound}
use Rattle.run_state.specs.Interpreting.{Gives, same, key_of, flow_of, watched, evaluated, noded, targeted, placed, truthed, convertible, answering, keyed, changed, bumped, fulled, branching, decided, bodied, test_turned, stepped_on, for_rest, do_turned, with_arguments, called_with, returning}
use Rattle.run_state.specs.declared.machine.Element.{Element}
use Rattle.run_state.specs.declared.machine.Flow.{Flow}
use Rattle.run_state.specs.declared.machine.Flow.TheVariants.{Next}
use Rattle.run_state.specs.declared.machine.Halt.{Halt}
use Rattle.run_state.specs.declared.machine.Halt.TheVariants.{Ends, NoMemory}
use Rattle.run_state.proofs.Giving.{halted, passed, is_here}

module _ (p : Program) (S : Type 0) (after : Event → List Cell → S → S) (n : ℕ) where
  -- two operands, then the operator
  module _ (at : Where) (spot : Spot) (op : BinOp) (a b : Exp) (x : ℤ) (s t : State S) (first : Gives same (Ok x) t (evaluated p S after n at Used a s)) where
    abbrev second : ℤ → State S → Ran S ℤ
    second v m = bound (evaluated p S after n at Used b m) (operate p (watched p S after) at spot op (type_of a) v (type_of b))

    pub binary_goes : (y : ℤ) (u v : State S) (r : Result ℤ Halt) → Gives same (Ok y) u (evaluated p S after n at Used b t)
        → Gives same r v (operate p (watched p S after) at spot op (type_of a) x (type_of b) y u) → Gives same r v (noded p S after n at Used spot None (Binary op a b) s)
    binary_goes y u v r f g =
        passed same same x t v (evaluated p S after n at Used a s) second r first
        (passed same same y u v (evaluated p S after n at Used b t) (operate p (watched p S after) at spot op (type_of a) x (type_of b)) r f g)

    pub binary_halts : (h : Halt) (u : State S) → Gives same (Err h) u (evaluated p S after n at Used b t) → Gives same (Err h) u (noded p S after n at Used spot None (Binary op a b) s)
    binary_halts h u g =
        passed same same x t u (evaluated p S after n at Used a s) second (Err h) first
        (halted same same h u (evaluated p S after n at Used b t) (operate p (watched p S after) at spot op (type_of a) x (type_of b)) g)

  pub unary_goes : (at : Where) (spot : Spot) (op : UnOp) (a : Exp) (x : ℤ) (s t u : State S) (r : Result ℤ Halt) → Gives same (Ok x) t (evaluated p S after n at Used a s)
      → Gives same r u (answering p S after at spot (computed_one p.model op (type_of a) x) t) → Gives same r u (noded p S after n at Used spot None (Unary op a) s)
  unary_goes at spot op a x s t u r e g = passed same same x t u (evaluated p S after n at Used a s) _ r e g

  pub comma_goes : (at : Where) (spot : Spot) (a b : Exp) (x : ℤ) (s t u : State S) (r : Result ℤ Halt) → Gives same (Ok x) t (evaluated p S after n at Unused a s)
      → Gives same r u (evaluated p S after n at Used b t) → Gives same r u (noded p S after n at Used spot None (Comma a b) s)
  comma_goes at spot a b x s t u r e g = passed same same x t u (evaluated p S after n at Unused a s) (λ _. evaluated p S after n at Used b) r e g

  pub both_go_on : (at : Where) (spot : Spot) (a b : Exp) (v : ℤ) (s t u : State S) (r : Result ℤ Halt) → Gives same (Ok v) t (evaluated p S after n at Used a s) → not (is_zero v) ≡ true
      → Gives same r u (truthed p S after n at b t) → Gives same r u (noded p S after n at Used spot None (Logic true a b) s)
  both_go_on at spot a b v s t u r e h g = passed same same v t u (evaluated p S after n at Used a s) _ r e (rw h g)

  pub either_goes_on : (at : Where) (spot : Spot) (a b : Exp) (v : ℤ) (s t u : State S) (r : Result ℤ Halt) → Gives same (Ok v) t (evaluated p S after n at Used a s) → not (is_zero v) ≡ false
      → Gives same r u (truthed p S after n at b t) → Gives same r u (noded p S after n at Used spot None (Logic false a b) s)
  either_goes_on at spot a b v s t u r e h g = passed same same v t u (evaluated p S after n at Used a s) _ r e (rw h g)

  pub step_goes : (at : Where) (spot : Spot) (op : StepOp) (a : Exp) (k : Element) (s t u : State S) (r : Result ℤ Halt) → Gives key_of (Ok k) t (targeted p S after n at a s)
      → Gives same r u (bumped p S after at spot op (key_of k) (type_of a) t) → Gives same r u (noded p S after n at Used spot None (Step op a) s)
  step_goes at spot op a k s t u r e g = passed key_of same k t u (targeted p S after n at a s) _ r e g

  pub decided_goes : (at : Spot) (e : Exp) (v : ℤ) (s t u : State S) (r : Result Bool Halt) → Gives same (Ok v) t (fulled p S after n at Used e s) → Gives same r u (branching p S after at v t)
      → Gives same r u (decided p S after n at e s)
  decided_goes at e v s t u r f g = passed same same v t u (fulled p S after n at Used e s) (branching p S after at) r f g

  -- an assignment whose right side halts; a compound one
  module _ (at : Where) (spot : Spot) (to from : Exp) (k : Element) (s t : State S) (first : Gives key_of (Ok k) t (targeted p S after n at to s)) where
    pub replace_halts : (h : Halt) (u : State S) → Gives same (Err h) u (evaluated p S after n at Used from t) → Gives same (Err h) u (noded p S after n at Used spot None (Assign None to from) s)
    replace_halts h u g =
        passed key_of same k t u (targeted p S after n at to s) _ (Err h) first
        (halted same same h u (evaluated p S after n at Used from t) (store p (watched p S after) (key_of k) (type_of from) (type_of to)) g)

    pub update_halts : (op : BinOp) (h : Halt) (u : State S) → Gives same (Err h) u (evaluated p S after n at Used from t) → Gives same (Err h) u (noded p S after n at Used spot None (Assign (Some op) to from) s)
    update_halts op h u g = passed key_of same k t u (targeted p S after n at to s) _ (Err h) first (halted same same h u (evaluated p S after n at Used from t) _ g)

    pub update_goes : (op : BinOp) (y : ℤ) (u v : State S) (r : Result ℤ Halt) → Gives same (Ok y) u (evaluated p S after n at Used from t)
        → Gives same r v (changed p S after at spot op (key_of k) (type_of to) (read (key_of k) t.cells) (type_of from) y u) → Gives same r v (noded p S after n at Used spot None (Assign (Some op) to from) s)
    update_goes op y u v r f g = passed key_of same k t v (targeted p S after n at to s) _ r first (passed same same y u v (evaluated p S after n at Used from t) _ r f g)

  -- a choice by its test
  module _ (at : Where) (spot : Spot) (ty : Option IntType) (mark : Spot) (e a b : Exp) (v : ℤ) (s t : State S) (first : Gives same (Ok v) t (evaluated p S after n at Used e s)) where
    pub choose_goes : (u : State S) (r : Result ℤ Halt) → Gives same r u (w.branched p S (seen_by after) mark (not (is_zero v)) (convertible p S after n at ty a) (convertible p S after n at ty b) t)
        → Gives same r u (noded p S after n at Used spot ty (Choose mark e a b) s)
    choose_goes u r g = passed same same v t u (evaluated p S after n at Used e s) _ r first g

    -- no memory for its event
    pub choose_halts : (u : State S) → u.seen ≡ t.seen → Gives same (Err NoMemory) u (noded p S after n at Used spot ty (Choose mark e a b) s)
    choose_halts u m = passed same same v t u (evaluated p S after n at Used e s) _ (Err NoMemory) first (is_here u.seen t.seen _ m)

  -- a loop's body, then what follows it where it came to its end
  pub do_goes : (result : Option IntType) (at : Spot) (x : t.Stm) (e : Exp) (s t u : State S) (r : Result Flow Halt) → Gives flow_of (Ok Next) t (bodied p S after n result x s)
      → Gives flow_of r u (test_turned p S after n at e t) → Gives flow_of r u (do_turned p S after n result at x e s)
  do_goes result at x e s t u r f g = passed flow_of flow_of Next t u (bodied p S after n result x s) (w.go_on p S (seen_by after) (test_turned p S after n at e)) r f g

  pub for_rest_goes : (result : Option IntType) (at : Spot) (step : Option Exp) (x : t.Stm) (s t u : State S) (r : Result Flow Halt) → Gives flow_of (Ok Next) t (bodied p S after n result x s)
      → Gives flow_of r u (stepped_on p S after n at step t) → Gives flow_of r u (for_rest p S after n result at step x s)
  for_rest_goes result at step x s t u r f g = passed flow_of flow_of Next t u (bodied p S after n result x s) (w.go_on p S (seen_by after) (stepped_on p S after n at step)) r f g

  -- a call in its state: its parameters and its body, then what it gives
  module _ (site : Site) (f : Function) (vs : List (ℤ × IntType)) (s t : State S) where
    abbrev deeper : State S
    deeper = record s { active = suc s.active }

    abbrev back : State S
    back = record (with_cells (take (length s.cells) t.cells) t) { active = t.active - 1 }

    abbrev leaving : acts.Flow → State S → Ran S ℤ
    leaving flow u = bound (w.quiet p S (seen_by after) (run.shallower p S (seen_by after)) u) (λ _. returning p S after site (given flow))

    abbrev entering : Unit {0} → State S → Ran S ℤ
    entering _ u = bound (w.scoped p S (seen_by after) (with_arguments p S after n f vs) u) leaving

    pub call_goes : (flow : Flow) (v : State S) (r : Result ℤ Halt) → Gives flow_of (Ok flow) t (with_arguments p S after n f vs deeper)
        → Gives same r v (returning p S after site (given (flow_of flow)) back) → Gives same r v (called_with p S after n site f vs s)
    call_goes flow v r g h =
        passed same same tt deeper v (w.wanting p S (seen_by after) (run.deeper p S (seen_by after)) s) entering r refl
        (passed flow_of same flow (with_cells (take (length s.cells) t.cells) t) v (w.scoped p S (seen_by after) (with_arguments p S after n f vs) deeper) leaving r
        (ap (acts.cut End (State S) cells_of with_cells (length s.cells)) g) h)

    scope_halts : (h : Halt) → Gives flow_of (Err h) t (with_arguments p S after n f vs deeper) → Gives flow_of (Err h) t (w.scoped p S (seen_by after) (with_arguments p S after n f vs) deeper)
    scope_halts (Ends e) g = ap (acts.cut End (State S) cells_of with_cells (length s.cells)) g
    scope_halts NoMemory g = g

    pub call_halts : (h : Halt) → Gives flow_of (Err h) t (with_arguments p S after n f vs deeper) → Gives same (Err h) t (called_with p S after n site f vs s)
    call_halts h g =
        passed same same tt deeper t (w.wanting p S (seen_by after) (run.deeper p S (seen_by after)) s) entering (Err h) refl
        (halted flow_of same h t (w.scoped p S (seen_by after) (with_arguments p S after n f vs) deeper) leaving (scope_halts h g))
