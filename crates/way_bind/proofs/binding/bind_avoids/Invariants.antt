use Rattle.std.proofs.Common.{take}
use Rattle.c_core.specs.View.{program_view}
use Rattle.way_match.specs.View.{points_view}
use Rattle.way_bind.specs.Binding.{AreBound}
use Rattle.way_bind.proofs.binding.bind_avoids.Given as goal

abbrev pub invariant-loop-nth : goal.invariant-loop-nth
invariant-loop-nth l = AreBound (program_view l.lookup.index) (take l.nth l.waypoints) (points_view l.points)
