use Rattle.c_core.specs.View.{program_view}
use Rattle.c_core.specs.declared.place.PlaceKind.TheVariants.{Statement}
use Rattle.way_match.specs.Points.{Assume}
use Rattle.way_match.specs.View.{point_view}
use Rattle.way_bind.proofs.ExpressionLaws.{there, lacking_there}
use Rattle.way_bind.proofs.waypoint.assumption_at.Goals as goal

pub returns-in_err-test : goal.returns-in_err-test
returns-in_err-test c =
    lacking_there (program_view c.args.lookup.now.index) Statement c.args.text.now Assume point_view c.args.spot c.in_err-test.field-0.0 c.from_residual.result c.from_residual.ensures.1 c.in_err-test.ensures

pub returns : goal.returns
returns c = there (program_view c.args.lookup.now.index) Statement c.args.text.now Assume c.args.spot c.in_ok-test.test c.in_ok-test.ensures
