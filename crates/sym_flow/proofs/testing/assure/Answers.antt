use Rattle.c_core.specs.View.{program_view}
use Rattle.sym_flow.proofs.Tests.{assured}
use Rattle.sym_flow.proofs.testing.assure.Goals as goal

pub returns : goal.returns
returns c ds d n = assured (program_view c.args.program.now) ds c.args.duty d c.args.test c.not.result n c.not.ensures c.in_ok-fail.ensures
