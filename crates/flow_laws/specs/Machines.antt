-- Machines that step code: where one stands, and the state of its run.
use Rattle.std.specs.Prelude.{ℕ, ℤ, List, []}
use Rattle.c_meaning.specs.declared.run.Choices.{Choices}
use Rattle.c_meaning.specs.Run.{State}
use Rattle.flow_laws.specs.declared.frame.Frame.{Frame}
use Rattle.flow_code.specs.declared.code.Code.{Code}
use Rattle.flow_code.specs.Programs.{cells_of}

-- the address of the next operation, the steps taken of it, the values on the stack, the cells that lived as each open scope began, the
-- calls; each list from the innermost on
pub record Control : Type 0 where
  pub at : ℕ
  pub paid : ℕ
  pub stack : List ℤ
  pub scopes : List ℕ
  pub frames : List Frame

-- a machine, with the state of its run as the definition of runs has it
pub record Machine (S : Type 0) : Type 0 where
  pub control : Control
  pub run : State S

-- before the first operation
abbrev pub first_control : Code → Control
first_control c = record { at = c.main; paid = 0; stack = []; scopes = []; frames = [] }

abbrev pub first_machine : (c : Code) (S : Type 0) → S → Choices → ℕ → Machine S
first_machine c S x choices n = record {
  control = first_control c;
  run = record { steps = n; cells = cells_of c.first; active = 0; choices = choices; draws = []; unfixed = 0; seen = x };
}

-- the same machine with other steps left
abbrev pub with_steps : {S : Type 0} → ℕ → Machine S → Machine S
with_steps n m = record m { run = record m.run { steps = n } }
