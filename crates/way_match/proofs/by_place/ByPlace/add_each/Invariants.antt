use Rattle.std.proofs.Common.{◌≡◌, ◌++◌, Option, drop}
use Rattle.c_core.specs.declared.number.Spot.{Spot}
use Rattle.way_match.specs.inside.ByPlace.{IsClear, numbers_for, numbers_in}
use Rattle.way_match.specs.View.{points_view}
use Rattle.way_match.proofs.by_place.ByPlace.add_each.Given as goal

abbrev pub invariant-loop-point : goal.invariant-loop-point
invariant-loop-point l = record {
  clear : IsClear l.self;
  numbers : (at : Option Spot) → numbers_in l.self at ++ numbers_for at l.number (points_view (drop l.point-index l.points)) ≡ numbers_in l.fn.self at ++ numbers_for at l.fn.number (points_view l.fn.points);
}
