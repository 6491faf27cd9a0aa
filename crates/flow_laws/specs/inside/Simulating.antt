-- What the code of each part of a program does, beside the part's meaning: the statements of the simulation, part by part.
use Rattle.std.specs.Prelude.{◌≡◌, ◌≤◌, ℕ, suc, ◌+◌, ℤ, false, List, [], ◌∷◌, ◌++◌, length, reverse, Option, Some, None, slice_get}
use Rattle.c_core.specs.Tree.{Exp, Stm, Form, Function, Program}
use Rattle.c_core.specs.declared.number.IntType.{IntType}
use Rattle.c_core.specs.declared.number.Spot.{Spot}
use Rattle.c_meaning.specs.declared.run.End.{End}
use Rattle.c_meaning.specs.declared.run.Event.{Event}
use Rattle.c_meaning.specs.Cells.{Cell}
use Rattle.c_meaning.specs.Acts.{Res, Go, Flow, Next, Broken, Again, Gave, bind}
use Rattle.c_meaning.specs.Meaning.{AStatement, Use, Used, Meaning, Calls}
use Rattle.c_meaning.specs.Run.{State}
use Rattle.c_meaning.specs.Run as run
use Rattle.c_meaning.specs.Watching.{seen_by}
use Rattle.c_meaning.specs.Eval.{eval}
use Rattle.c_meaning.specs.Exec.{ticks, call_of, run_in, exec, form}
use Rattle.run_state.specs.Interpreting.{where_of, site_of}
use Rattle.run_state.specs.declared.machine.Around.{Around}
use Rattle.run_state.specs.declared.machine.CallSite.{CallSite}
use Rattle.flow_code.specs.declared.code.Op.{Op}
use Rattle.flow_code.specs.declared.code.Code.{Code}
use Rattle.flow_code.specs.declared.code.Action.TheVariants.{Leave, Return as ReturnOf}
use Rattle.flow_code.specs.declared.code.Then.{Then}
use Rattle.flow_code.specs.declared.code.Into.{Into}
use Rattle.flow_code.specs.declared.code.Place.{Place}
use Rattle.flow_code.specs.declared.statements.Inside.{Inside}
use Rattle.flow_code.specs.Preparing.{op, only, stored_in, all_closed}
use Rattle.flow_code.specs.Sizes.{size, size_stored, size_of_form, size_of_statement}
use Rattle.flow_code.specs.Expressions.{code, stored_code, call_of as call_op}
use Rattle.flow_code.specs.Statements.{statement_code, form_code, jump_out}
use Rattle.flow_code.specs.Words.{native_if}
use Rattle.flow_laws.specs.Machines.{Control, Machine}
use Rattle.flow_laws.specs.Acting.{finished, converted}
use Rattle.flow_laws.specs.Stepping.{Does}

-- a code has these operations from an address on
abbrev pub HasCode : Code → ℕ → List Op → Type 0
HasCode c i [] = Unit {0}
HasCode c i (o ∷ os) = (slice_get c.ops i ≡ Some o) × HasCode c (suc i) os

-- a machine is about to do the operation at an address, of whose steps none is taken
pub record StandsAt {S : Type 0} (i : ℕ) (m : Machine S) : Type 0 where
  pub at : m.control.at ≡ i
  pub paid : m.control.paid ≡ 0

-- the control at another address
abbrev pub control_at : Control → ℕ → Control
control_at k j = record k { at = j; paid = 0 }

-- the values of arguments, the last one first
abbrev pub values_of : List (ℤ × IntType) → List ℤ
values_of [] = []
values_of (v ∷ vs) = v.0 ∷ values_of vs

module _ (p : Program) (c : Code) (S : Type 0) (after : Event → List Cell → S → S) where
  -- runs that a watcher sees
  abbrev pub meaning : Meaning
  meaning = run.real p S (seen_by after)

  -- calls at most n deep
  abbrev pub calls : ℕ → Calls meaning
  calls n site g vs = call_of p meaning (run_in p meaning n) site (slice_get p.functions g) vs

  -- so many steps, and then a part
  abbrev pub paying : {A : Type 0} → ℕ → (State S → Res End (State S) A) → State S → Res End (State S) A
  paying k part s = bind (ticks p meaning AStatement k s) (λ _ u. part u)

  -- behind the code of an expression, at an address, its value went where it was to go
  abbrev pub Finishes : Control → ℕ → Into → ℤ → State S → Machine S → Type 0
  Finishes k j x v s y = finished c S after v v x (control_at k j) s ≡ Go y.control y.run

  -- expressions, where calls are at most n deep and at most n steps are left
  abbrev pub Evaluated : ℕ → Type 0
  Evaluated n = (e : Exp) (at : Around) (i k : ℕ) (want : Use) (then : Then) (m : Machine S)
      → HasCode c i (code p at i k want e then) → StandsAt i m → m.run.steps ≤ n
      → Does c S after m (paying k (eval p meaning (calls n) (where_of at) want e) m.run) (Finishes m.control (i + size e) (only then))

  -- the same of a value that is stored, and isn't the old one behind it; the index of an element is on the stack
  abbrev pub StoredAs : ℕ → Type 0
  StoredAs n = (e : Exp) (at : Around) (i k : ℕ) (place : Place) (ty : IntType) (then : Then) (m : Machine S)
      → HasCode c i (stored_code p at i k e (stored_in place ty false then)) → StandsAt i m → m.run.steps ≤ n
      → Does c S after m (paying k (eval p meaning (calls n) (where_of at) Used e) m.run) (Finishes m.control (i + size_stored e) (stored_in place ty false then))

  -- the call of a function of the program, with its arguments on the stack: its value is there instead
  abbrev pub CallIsDone : ℕ → Type 0
  CallIsDone n = (f : ℕ) (g : Function) → slice_get p.functions f ≡ Some g → (site : CallSite) (vs : List (ℤ × IntType)) (rest : List ℤ) (m : Machine S)
      → slice_get c.ops m.control.at ≡ Some (call_op f (length vs) site (Some g)) → m.control.paid ≡ 0 → m.control.stack ≡ reverse (values_of vs) ++ rest → m.run.steps ≤ n
      → Does c S after m (calls n (site_of site) f vs m.run) (λ v s y. (y.control ≡ record m.control { at = suc m.control.at; stack = v ∷ rest }) × (y.run ≡ s))

  -- how a statement inside others is left: after its code; before the way out of the scopes of what `break` leaves, of the turn's, of the function's, with the value
  -- that is given, not yet converted to the function's type, on the stack
  abbrev pub LeavesAs : Inside → Control → ℕ → Flow → State S → Machine S → Type 0
  LeavesAs w k j Next s y = (y.run ≡ s) × (y.control ≡ control_at k j)
  LeavesAs w k j Broken s y = (y.run ≡ s) × ((i : ℕ) × (y.control ≡ control_at k i) × HasCode c i (jump_out w.depth.inner w.broken))
  LeavesAs w k j Again s y = (y.run ≡ s) × ((i : ℕ) × (y.control ≡ control_at k i) × HasCode c i (jump_out w.depth.turn w.again))
  LeavesAs w k j (Gave None) s y = (y.run ≡ s) × ((i : ℕ) × (y.control ≡ control_at k i) × HasCode c i (all_closed w.depth.scopes ++ op 0 Leave ∷ []))
  LeavesAs w k j (Gave (Some v)) s y =
      (y.run ≡ s) × ((i : ℕ) × (u : ℤ) × (converted c S after w.result u ≡ v) × (y.control ≡ record (control_at k i) { stack = u ∷ k.stack })
      × HasCode c i (all_closed w.depth.scopes ++ op 0 (ReturnOf w.result) ∷ []))

  -- statements of a function of a result, where calls are at most n deep and at most n steps are left
  abbrev pub Executed : ℕ → Type 0
  Executed n = (result : Option IntType) (st : Stm) (i : ℕ) (w : Inside) (m : Machine S)
      → w.result ≡ native_if p.model result → HasCode c i (statement_code p i w st) → StandsAt i m → m.run.steps ≤ n
      → Does c S after m (exec p meaning (calls n) result st m.run) (LeavesAs w m.control (i + size_of_statement w.depth st))

  -- the same of a form, behind the statement's step and event
  abbrev pub FormExecuted : ℕ → Type 0
  FormExecuted n = (result : Option IntType) (at : Spot) (f : Form) (i : ℕ) (w : Inside) (m : Machine S)
      → w.result ≡ native_if p.model result → HasCode c i (form_code p i w at f) → StandsAt i m → m.run.steps ≤ n
      → Does c S after m (form p meaning (calls n) result at f m.run) (LeavesAs w m.control (i + size_of_form w.depth f))
