use Rattle.std.proofs.Common.{◌≡◌, ◌++◌, drop}
use Rattle.c_core.specs.View.{program_view}
use Rattle.way_match.specs.inside.Prepared.{all_ready}
use Rattle.way_match.specs.View.{points_view}
use Rattle.way_match.proofs.prepared.each_ready.Given as goal

abbrev pub invariant-loop-point : goal.invariant-loop-point
invariant-loop-point l = l.found ++ all_ready (program_view l.index) (points_view (drop l.point-index l.points)) ≡ all_ready (program_view l.index) (points_view l.points)
