-- What code promises of the runs of a program.
use Rattle.std.specs.Prelude.{ℕ, List, [], ◌∷◌, ◌++◌}
use Rattle.c_core.specs.Tree.{Program}
use Rattle.c_meaning.specs.declared.run.Choices.{Choices}
use Rattle.c_meaning.specs.declared.run.Event.{Event}
use Rattle.c_meaning.specs.Cells.{Cell}
use Rattle.c_meaning.specs.Run.{state_of, end_of}
use Rattle.c_meaning.specs.Run as run
use Rattle.c_meaning.specs.Watching.{seen_by}
use Rattle.flow_code.specs.declared.code.Code.{Code}
use Rattle.flow_laws.specs.Machines.{first_machine}
use Rattle.flow_laws.specs.Stepping.{Ends}

-- an event with the live cells of its moment
pub record Sight : Type 0 where
  pub event : Event
  pub cells : List Cell

-- who keeps all events, the latest last
abbrev pub noted : Event → List Cell → List Sight → List Sight
noted e cs xs = xs ++ record { event = e; cells = cs } ∷ []

-- the machine of a program's code comes to the end of the program's run, in the state in which that ends, with all events noted
pub record IsSimulated (p : Program) (c : Code) : Type 0 where
  pub ends : (choices : Choices) (n : ℕ) → let r = run.Seen p (List Sight) (seen_by noted) [] choices n in
      Ends c (List Sight) noted (first_machine c (List Sight) [] choices n) (end_of r) (state_of r)
