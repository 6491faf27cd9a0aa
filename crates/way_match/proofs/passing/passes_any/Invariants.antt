use Rattle.std.proofs.Common.{◌≡◌, drop}
use Rattle.c_core.specs.View.{program_view}
use Rattle.way_match.specs.Passing.{passes_any}
use Rattle.way_match.specs.View.{points_view}
use Rattle.way_match.proofs.passing.passes_any.Given as goal

abbrev pub invariant-loop-i : goal.invariant-loop-i
invariant-loop-i l =
    passes_any (program_view l.program) (points_view (drop l.i l.points)) l.event l.memory.cells ≡ passes_any (program_view l.program) (points_view l.points) l.event l.memory.cells
