use Rattle.c_core.specs.View.{program_view}
use Rattle.sym_values.proofs.Ending.{reach_fails, reach_ends}
use Rattle.sym_values.proofs.calls.reach.Goals as goal

pub returns-in_ok-violate-in-UnreachCall : goal.returns-in_ok-violate-in-UnreachCall
returns-in_ok-violate-in-UnreachCall c W site d q =
    reach_fails (program_view c.args.program.now) W c.args.sym.now c.violate.new.sym c.yes-always.result c.yes-always.ensures c.args.at site c.args.counts d q c.in-UnreachCall.is c.in_ok-violate-in-UnreachCall.ensures

pub returns-in_ok-stop-in-NoOverflow : goal.returns-in_ok-stop-in-NoOverflow
returns-in_ok-stop-in-NoOverflow c W site d q = reach_ends (program_view c.args.program.now) W c.args.sym.now c.stop.new.sym c.yes-always.result c.yes-always.ensures c.args.at site c.in-NoOverflow.is c.in_ok-stop-in-NoOverflow.ensures
