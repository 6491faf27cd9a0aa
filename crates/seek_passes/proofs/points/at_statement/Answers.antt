use Rattle.c_core.specs.View.{program_view, expr_view}
use Rattle.circuits.proofs.Nets.{opp}
use Rattle.way_match.specs.View.{point_view}
use Rattle.seek_passes.proofs.Constraints.{assumed_ready, assumed_passes, none_assumed}
use Rattle.seek_passes.proofs.points.at_statement.Goals as goal

pub holds_bit-requires : goal.holds_bit-requires
holds_bit-requires c = assumed_ready (program_view c.args.program.now) (point_view c.args.point.now) c.args.at (expr_view c.in-Some.test.now) c.in-Some.ensures c.args.sym.now c.requires.point c.requires.fits c.requires.room

pub returns-in_ok-holds-in-Some : goal.returns-in_ok-holds-in-Some
returns-in_ok-holds-in-Some c =
    assumed_passes (program_view c.args.program.now) (point_view c.args.point.now) c.args.at (expr_view c.in-Some.test.now) c.in-Some.ensures c.args.sym.now c.holds_bit.new.sym c.in_ok-holds-in-Some.holds c.in_ok-holds-in-Some.ensures

pub returns-in-None : goal.returns-in-None
returns-in-None c = none_assumed (program_view c.args.program.now) (point_view c.args.point.now) c.args.at c.args.sym.now c.not.result c.in-None.ensures c.requires.fits (opp c.not.ensures c.yes.ensures)
