use Rattle.std.proofs.Common.{◌≡◌, ◌+◌, drop, length}
use Rattle.sym_weight.specs.Tally.{capped}
use Rattle.way_match.specs.View.{each_segment_view}
use Rattle.seek_weight.specs.Tolls.{points_of}
use Rattle.seek_weight.proofs.tolls.passage.Given as goal

-- with the waypoints of the segments that are left they become all of them
abbrev pub invariant-loop-segment : goal.invariant-loop-segment
invariant-loop-segment l = record {
  settled : capped l.waypoints ≡ l.waypoints;
  waypoints : capped (l.waypoints + length (points_of (each_segment_view (drop l.segment-index l.segments))))
      ≡ capped (length (points_of (each_segment_view l.segments)));
}
