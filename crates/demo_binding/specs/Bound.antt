-- What answers of the binding of a demo's witnesses are.
use Rattle.std.specs.Prelude.{◌≡◌, List, Result, Ok, Err}
use Rattle.c_meaning.specs.Duties.{Placed}
use Rattle.c_meaning.specs.Placing.{placed_view}
use Rattle.c_meaning.specs.declared.run.PlacedInvariant.{PlacedInvariant}
use Rattle.way_match.specs.Points.{BoundSegment}
use Rattle.way_match.specs.View.{segments_view}
use Rattle.way_match.specs.declared.point.Bound.{Bound}
use Rattle.way_bind.specs.declared.fault.BindFault.{BindFault}
use Rattle.way_bind.specs.declared.fault.BindFault.TheVariants.{NoPlace, Expression, Scope, OutOfMemory}

-- these segments, unless memory ran out
abbrev pub AreSegments : List BoundSegment → Result Bound BindFault → Type 0
AreSegments ss (Ok bound) = segments_view bound ≡ ss
AreSegments ss (Err (NoPlace n)) = ⊥
AreSegments ss (Err (Expression n)) = ⊥
AreSegments ss (Err (Scope n)) = ⊥
AreSegments ss (Err OutOfMemory) = Unit {0}

-- these invariants at their places, unless memory ran out
abbrev pub ArePlaced : List Placed → Result (List PlacedInvariant) BindFault → Type 0
ArePlaced xs (Ok ys) = placed_view ys ≡ xs
ArePlaced xs (Err (NoPlace n)) = ⊥
ArePlaced xs (Err (Expression n)) = ⊥
ArePlaced xs (Err (Scope n)) = ⊥
ArePlaced xs (Err OutOfMemory) = Unit {0}
