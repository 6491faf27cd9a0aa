use Rattle.c_core.specs.View.{program_view}
use Rattle.sym_values.proofs.Ending.{end_gives}
use Rattle.sym_values.proofs.calls.end.Goals as goal

pub returns : goal.returns
returns c W = end_gives (program_view c.args.program.now) W c.args.sym.now c.stop.new.sym c.yes-always.result c.yes-always.ensures c.in_ok-stop.ensures
