use Rattle.std.proofs.Common.{◌≡◌, drop, List}
use Rattle.c_core.specs.Tree.{Program}
use Rattle.c_meaning.specs.Cells.{Cell}
use Rattle.c_meaning.specs.declared.run.Event.TheVariants.{Fail}
use Rattle.way_match.specs.Passing.{passes_any}
use Rattle.way_match.specs.View.{points_view}
use Rattle.seek_passes.proofs.violation.fails_at_any.Given as goal

abbrev pub invariant-loop-point : goal.invariant-loop-point
invariant-loop-point l = (p : Program) (cells : List Cell)
    → passes_any p (points_view (drop l.point-index l.points)) (Fail l.at.statement l.at.full l.at.call) cells ≡ passes_any p (points_view l.points) (Fail l.at.statement l.at.full l.at.call) cells
