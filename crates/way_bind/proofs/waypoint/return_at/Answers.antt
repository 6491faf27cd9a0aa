use Rattle.c_core.specs.View.{program_view}
use Rattle.way_match.specs.View.{point_view}
use Rattle.way_bind.specs.Binding.{seen}
use Rattle.way_bind.proofs.ReturnLaws.{constrained}
use Rattle.way_bind.proofs.waypoint.return_at.Goals as goal

pub returns-in-Some : goal.returns-in-Some
returns-in-Some c =
    constrained (program_view c.args.index.now) c.args.constraint.now c.in-Some.constraint c.as_str.result.now c.args.close (seen point_view c.tested_return.result) c.in-Some.is c.as_str.ensures c.tested_return.ensures
