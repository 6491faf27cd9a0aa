use Rattle.std.proofs.Common.{take}
use Rattle.c_core.specs.View.{program_view}
use Rattle.way_match.specs.View.{each_segment_view}
use Rattle.seek_passes.specs.Passing.{PassesSegments}
use Rattle.seek_passes.proofs.segments.passes_segments.Given as goal

-- of those before the index
abbrev pub invariant-loop-segment : goal.invariant-loop-segment
invariant-loop-segment l = PassesSegments (program_view l.program) l.event (each_segment_view (take l.segment-index l.segments)) l.initial.sym l.sym l.all.items
