use Rattle.sym_flow.proofs.Becoming.{never_means}
use Rattle.sym_flow.proofs.ways.never.Goals as goal

pub returns : goal.returns
returns c = never_means c.args.net.now c.yes.result c.not.result c.yes.ensures c.not.ensures
