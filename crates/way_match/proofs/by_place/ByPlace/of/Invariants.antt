use Rattle.std.proofs.Common.{◌≡◌, ◌++◌, Option, drop}
use Rattle.c_core.specs.declared.number.Spot.{Spot}
use Rattle.way_match.specs.inside.ByPlace.{IsClear, moved, numbers_in}
use Rattle.way_match.specs.View.{each_segment_view}
use Rattle.way_match.proofs.by_place.ByPlace.of.Given as goal

abbrev pub invariant-loop-number : goal.invariant-loop-number
invariant-loop-number l = record {
  clear : IsClear l.found;
  numbers : (at : Option Spot) → numbers_in l.found at ++ moved at l.number (each_segment_view (drop l.number l.segments)) ≡ moved at 0 (each_segment_view l.fn.segments);
}
