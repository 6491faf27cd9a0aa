use Rattle.c_core.specs.View.{program_view}
use Rattle.way_match.specs.View.{each_segment_view}
use Rattle.seek_weight.specs.inside.Weighing.{AreTotals}
use Rattle.seek_weight.proofs.limits.unfolded.Given as goal

-- what functions come to with calls so deep
abbrev pub invariant-loop-depth : goal.invariant-loop-depth
invariant-loop-depth l = AreTotals (program_view l.program) (each_segment_view l.segments) l.turns l.depth l.all.items
