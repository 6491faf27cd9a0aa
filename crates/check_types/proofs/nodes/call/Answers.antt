use Rattle.std.proofs.Common.{ap}
use Rattle.c_core.specs.Tree as t
use Rattle.c_core.proofs.View.{view_of_call}
use Rattle.check_types.proofs.nodes.call.Goals as goal

pub returns : goal.returns
returns c = ap (t.Expr c.args.spot c.args.ty) (view_of_call c.args.callee c.args.args c.args.close)
