use Rattle.c_core.specs.View.{program_view}
use Rattle.sym_values.proofs.Judging.{ended_turned}
use Rattle.sym_values.proofs.operators.end_runs.Goals as goal

pub returns-in_ok-stop-in-NoOverflow : goal.returns-in_ok-stop-in-NoOverflow
returns-in_ok-stop-in-NoOverflow c =
    ended_turned (program_view c.args.program.now) c.args.sym.now c.violate.new.sym c.stop.new.sym c.args.at.duty c.args.counts c.args.overflow c.args.undefined c.in-NoOverflow.is c.requires.undefined_in
    c.in_ok-violate-in-NoOverflow.ensures c.in_ok-stop-in-NoOverflow.ensures
