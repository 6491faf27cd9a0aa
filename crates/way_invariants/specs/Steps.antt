-- What the parts of `bind_correctness` answer.
use Rattle.std.specs.Prelude.{◌≡◌, ◌+◌, ◌++◌, length, List, Result, Ok, Err}
use Rattle.c_core.specs.Tree.{Program}
use Rattle.c_meaning.specs.Duties.{Placed}
use Rattle.c_meaning.specs.declared.run.PlacedInvariant.{PlacedInvariant}
use Rattle.c_meaning.specs.Placing.{placed_view}
use Rattle.wv_schema.specs.declared.witness.Invariant.{Invariant}
use Rattle.way_bind.specs.declared.fault.BindFault.{BindFault}
use Rattle.way_bind.specs.InOrder.{AllBound, TellsLeast}
use Rattle.way_invariants.specs.Invariants.{BindsInvariant}

-- these invariants are bound after those that were, or the least of them that isn't is reported
abbrev pub BindsNext : Program → List Invariant → List PlacedInvariant → List PlacedInvariant → Result (Unit {0}) BindFault → Type 0
BindsNext p vs old new (Ok done) = (xs : List Placed) × (placed_view new ≡ placed_view old ++ xs) × AllBound (BindsInvariant p) vs xs
BindsNext p vs old new (Err f) = TellsLeast (BindsInvariant p) (length old + 1) vs f
