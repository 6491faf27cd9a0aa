use Rattle.std.proofs.Common.{◌≡◌, ◌++◌, drop}
use Rattle.c_core.specs.View.{program_view}
use Rattle.way_match.specs.inside.Gathered.{gathered, values_view}
use Rattle.way_match.specs.View.{each_segment_view}
use Rattle.way_match.proofs.given_values.gather.Given as goal

-- with what is left it becomes what the whole gives
abbrev pub invariant-loop-segment : goal.invariant-loop-segment
invariant-loop-segment l =
    (values_view l.list.items ++ gathered (program_view l.index) (each_segment_view (drop l.segment-index l.segments)) ≡ gathered (program_view l.index) (each_segment_view l.segments))
