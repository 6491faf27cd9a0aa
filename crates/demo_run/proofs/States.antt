-- Runs of a program of `main` alone: their states, and what is seen in them.
use Rattle.std.proofs.Common.{ℕ, Bool, List, ◌∷◌}
use Rattle.c_core.specs.Tree.{Program}
use Rattle.c_core.specs.declared.number.Spot.{Spot}
use Rattle.c_meaning.specs.declared.run.End.{End}
use Rattle.c_meaning.specs.declared.run.Event.TheVariants.{At, Branch}
use Rattle.c_meaning.specs.declared.run.Way.TheVariants.{Truth}
use Rattle.c_meaning.specs.Acts.{Res}
use Rattle.c_meaning.specs.Cells.{Cell}
use Rattle.c_meaning.specs.Meaning.{Meaning}
use Rattle.c_meaning.specs.Run.{Moment, Told, Here, Head, State, real}
use Rattle.c_meaning.specs.Meaning.{Loop}

-- what was seen, the last first
abbrev pub Sights : Type 0
Sights = List Moment

abbrev pub meaning : Program → Meaning
meaning p = real p Sights (λ x xs. x ∷ xs)

-- what a part gives
abbrev pub Ran : Type 0 → Type 0
Ran A = Res End (State Sights) A

-- with so many steps left, these cells, and this seen
abbrev pub state : State Sights → ℕ → List Cell → Sights → State Sights
state base n cs xs = record base { steps = n; cells = cs; seen = xs }

-- a statement is reached
abbrev pub reached : Spot → List Cell → Sights → Sights
reached at cs xs = Told (At at) cs ∷ Here at cs ∷ xs

-- a branching is taken this way
abbrev pub branched : Spot → Bool → State Sights → State Sights
branched at way s = record s { seen = Told (Branch at (Truth way)) s.cells ∷ s.seen }

-- a loop is at its head
abbrev pub headed : Spot → Loop → List Cell → State Sights → State Sights
headed at l arrived s = record s { seen = Head at l arrived s.cells ∷ s.seen }
