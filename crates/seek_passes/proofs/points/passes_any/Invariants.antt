use Rattle.std.proofs.Common.{take}
use Rattle.c_core.specs.View.{program_view}
use Rattle.way_match.specs.View.{points_view}
use Rattle.seek_passes.specs.Passing.{PassesAny}
use Rattle.seek_passes.proofs.points.passes_any.Given as goal

-- one of those before the index
abbrev pub invariant-loop-point : goal.invariant-loop-point
invariant-loop-point l = PassesAny (program_view l.program) l.event (points_view (take l.point-index l.points)) l.initial.sym l.sym l.some
