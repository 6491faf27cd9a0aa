use Rattle.std.proofs.Common.{◌≡◌, ◌++◌, drop}
use Rattle.c_core.specs.View.{program_view}
use Rattle.way_match.specs.inside.Prepared.{all_prepared}
use Rattle.way_match.specs.View.{each_segment_view}
use Rattle.way_match.proofs.prepared.prepare.Given as goal

abbrev pub invariant-loop-segment : goal.invariant-loop-segment
invariant-loop-segment l = l.prepared ++ all_prepared (program_view l.index) (each_segment_view (drop l.segment-index l.segments)) ≡ all_prepared (program_view l.index) (each_segment_view l.segments)
