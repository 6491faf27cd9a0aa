-- Runs that have room.
use Rattle.std.specs.Prelude.{◌≡◌, ℕ}
use Rattle.c_core.specs.Tree.{Program}
use Rattle.c_meaning.specs.declared.run.Choices.{Choices}
use Rattle.c_meaning.specs.declared.run.End.TheVariants.{Deep}
use Rattle.c_meaning.specs.Run.{Run}

-- as many functions as leave room for the cells of all objects
abbrev pub most_functions : ℕ
most_functions = 800000

-- no run ends for want of room
abbrev pub HasRoom : Program → Type 0
HasRoom p = (c : Choices) (N : ℕ) → (Run p c N).end ≡ Deep → ⊥
