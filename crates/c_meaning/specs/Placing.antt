-- Invariants at places of a program: those of Rust as pure ones, and what a bound one is.
use Rattle.std.specs.Prelude.{List, map, IsTrue}
use Rattle.c_core.specs.Tree.{Program}
use Rattle.c_core.specs.Typing.{has_value, is_typed}
use Rattle.c_core.specs.View.{expr_view}
use Rattle.c_meaning.specs.Duties.{Placed}
use Rattle.c_meaning.specs.declared.run.PlacedInvariant.{PlacedInvariant}

-- an invariant at its place
abbrev pub placed : PlacedInvariant → Placed
placed x = record { at_loop = x.at_loop; spot = x.spot; test = expr_view x.test }

-- invariants at their places, in order
abbrev pub placed_view : List PlacedInvariant → List Placed
placed_view xs = map placed xs

-- its expression is a typed expression of the program, and has a value
pub record IsInvariant (p : Program) (x : Placed) : Type 0 where
  pub types : IsTrue (is_typed p x.test)
  pub value : IsTrue (has_value x.test)
