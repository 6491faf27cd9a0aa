use Rattle.c_core.specs.View.{program_view}
use Rattle.sym_flow.proofs.Calls.{needed_turned, unneeded_turned}
use Rattle.sym_flow.proofs.calling.need.Goals as goal

pub returns-in_ok-stop : goal.returns-in_ok-stop
returns-in_ok-stop c = rw c.if-needed.true (needed_turned (program_view c.args.program.now) c.args.sym.now c.stop.new.sym c.args.gave c.not.result c.not.ensures c.in_ok-stop.ensures)

pub returns-else-needed : goal.returns-else-needed
returns-else-needed c = rw c.if-needed.false (unneeded_turned (program_view c.args.program.now) c.args.sym.now c.args.gave c.requires.fits)
