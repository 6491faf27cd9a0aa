use Rattle.c_core.specs.View.{program_view}
use Rattle.sym_flow.proofs.Tests.{assumed}
use Rattle.sym_flow.proofs.testing.assume.Goals as goal

pub returns : goal.returns
returns c ds = assumed (program_view c.args.program.now) ds c.args.test c.not.result c.not.ensures c.in_ok-stop.ensures
