use Rattle.std.proofs.Common.{◌≡◌, ◌+◌, drop}
use Rattle.c_core.specs.View.{program_view}
use Rattle.c_core.specs.declared.number.Spot.{Spot}
use Rattle.sym_weight.specs.Tally.{capped}
use Rattle.way_match.specs.View.{points_view}
use Rattle.seek_weight.specs.Tolls.{Happening, placed_weight}
use Rattle.seek_weight.specs.inside.Weighing.{placed_in}
use Rattle.seek_weight.proofs.tolls.Tolls.add_each.Given as goal

-- with the waypoints that are left it becomes what all of them give
abbrev pub invariant-loop-point : goal.invariant-loop-point
invariant-loop-point l = record {
  passage : l.self.passage ≡ l.initial.self.passage;
  adds : (h : Happening) (at : Spot) → capped (placed_in l.self h at + placed_weight (program_view l.index) h at (points_view (drop l.point-index l.points)))
      ≡ capped (placed_in l.initial.self h at + placed_weight (program_view l.index) h at (points_view l.points));
}
