use Rattle.std.proofs.Common.{◌≡◌, ◌+◌, length, take}
use Rattle.c_core.specs.View.{program_view}
use Rattle.way_match.specs.View.{each_segment_view}
use Rattle.way_bind.specs.Binding.{AreBoundTo, waypoints_in}
use Rattle.way_bind.proofs.binding.bind_segments.Given as goal

abbrev pub invariant-loop-segment : goal.invariant-loop-segment
invariant-loop-segment l = record {
  bound : AreBoundTo (program_view l.lookup.index) (take l.segment-index l.segments) (each_segment_view l.bound);
  counted : l.first ≡ 1 + length (waypoints_in (take l.segment-index l.segments));
}
