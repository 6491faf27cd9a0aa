-- A machine of Rust as the machine of definitions.
use Rattle.std.specs.Prelude.{◌≡◌, ◌⊎◌, ℤ, pos, List, reverse, Option, Some, None, Result, Ok, Err}
use Rattle.c_core.specs.Types.{fit}
use Rattle.c_core.specs.declared.number.DataModel.TheVariants.{Lp64}
use Rattle.c_core.specs.declared.number.IntType.{IntType}
use Rattle.c_meaning.specs.declared.run.End.TheVariants.{Spent}
use Rattle.c_meaning.specs.declared.run.End.{End}
use Rattle.c_meaning.specs.declared.run.Event.{Event}
use Rattle.c_meaning.specs.Acts.{Res, Go, Stop, bind}
use Rattle.c_meaning.specs.Cells.{Cell}
use Rattle.c_meaning.specs.Run.{State, answered}
use Rattle.c_meaning.specs.Watching.{seen_by}
use Rattle.run_state.specs.Interpreting.{choices_left, where_of}
use Rattle.run_state.specs.declared.machine.Halt.{Halt}
use Rattle.run_state.specs.declared.machine.Halt.TheVariants.{Ends, NoMemory}
use Rattle.flow_machine.specs.declared.control.Control.{Control as Here}
use Rattle.flow_machine.specs.declared.control.Running.{Running}
use Rattle.c_core.specs.declared.number.Done.{Done}
use Rattle.flow_code.specs.declared.code.Code.{Code}
use Rattle.flow_code.specs.declared.code.Into.{Into}
use Rattle.flow_code.specs.declared.code.Source.{Source}
use Rattle.flow_laws.specs.Acting.{program_in, finished}
use Rattle.flow_laws.specs.Machines.{Control, Machine}
use Rattle.flow_laws.specs.Stepping.{Turn, On, Short, Over}

-- the top of each stack first
abbrev pub control_of : Here → Control
control_of k = record { at = k.at; paid = k.paid; stack = reverse k.stack.items; scopes = reverse k.scopes.items; frames = reverse k.frames.items }

abbrev pub state_of : {S : Type 0} → Running → S → State S
state_of r x = record {
  steps = r.steps;
  cells = r.memory.cells;
  active = r.active;
  choices = choices_left r.left;
  draws = r.draws.items;
  unfixed = r.unfixed;
  seen = x;
}

abbrev pub machine_of : {S : Type 0} → Here → Running → S → Machine S
machine_of k r x = record { control = control_of k; run = state_of r x }

-- a part gave what it is to give, and left the state so; out of memory, `Fronts.antt` says what its watcher has seen
abbrev pub Gives : {A B S : Type 0} → (A → B) → Result A Halt → State S → Res End (State S) B → Type 0
Gives view (Ok a) s r = r ≡ Go (view a) s
Gives view (Err (Ends e)) s r = r ≡ Stop e s
Gives view (Err NoMemory) s r = Unit {0}

-- a part gave what it is to give, and left the machine so; out of memory, `Fronts.antt` says what its watcher has seen
abbrev pub Acts : {S : Type 0} → Result (Unit {0}) Halt → Control → State S → Res End (State S) Control → Type 0
Acts (Ok u) k s r = r ≡ Go k s
Acts (Err (Ends e)) k s r = r ≡ Stop e s
Acts (Err NoMemory) k s r = Unit {0}

-- one operation did what it is to do; out of memory, `Fronts.antt` says what its watcher has seen
abbrev pub Steps : {S : Type 0} → Result (Unit {0}) Halt → Machine S → Turn S → Type 0
Steps (Ok u) m r = r ≡ On m
Steps (Err (Ends e)) m r = ((r ≡ Short m) × (e ≡ Spent)) ⊎ (r ≡ Over e m.run)
Steps (Err NoMemory) m r = Unit {0}

-- the value of a parameter: its argument, converted to its type, or 0 where there is none
abbrev pub argument_of : IntType → Option ℤ → ℤ
argument_of ty None = pos 0
argument_of ty (Some v) = fit Lp64 ty v

-- an operator's answer goes where it is said, beside the value of the left operand
abbrev pub answer_finished : (c : Code) (S : Type 0) → (Event → List Cell → S → S) → Source → ℤ → Done → Into → Control → State S → Res End (State S) Control
answer_finished c S after from left d x k s =
    bind (answered (program_in c) S (seen_by after) (where_of from.around) from.spot d s) (λ v u. finished c S after left v x k u)
