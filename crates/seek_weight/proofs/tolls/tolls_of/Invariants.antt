use Rattle.std.proofs.Common.{◌≡◌, ◌+◌, drop}
use Rattle.c_core.specs.View.{program_view}
use Rattle.c_core.specs.declared.number.Spot.{Spot}
use Rattle.sym_weight.specs.Tally.{capped}
use Rattle.way_match.specs.View.{each_segment_view}
use Rattle.seek_weight.specs.Tolls.{Happening, passage, placed_weight, points_of}
use Rattle.seek_weight.specs.inside.Weighing.{placed_in}
use Rattle.seek_weight.proofs.tolls.tolls_of.Given as goal

-- with the segments that are left it becomes what all of them give
abbrev pub invariant-loop-segment : goal.invariant-loop-segment
invariant-loop-segment l = record {
  passage : l.found.passage ≡ capped (passage (each_segment_view l.segments));
  adds : (h : Happening) (at : Spot)
      → capped (placed_in l.found h at + placed_weight (program_view l.index) h at (points_of (each_segment_view (drop l.segment-index l.segments))))
      ≡ capped (placed_weight (program_view l.index) h at (points_of (each_segment_view l.segments)));
}
