use Rattle.std.proofs.Common.{Some, ap}
use Rattle.c_core.specs.Tree as t
use Rattle.c_core.proofs.View.{view_of_index}
use Rattle.check_types.proofs.nodes.index.Goals as goal

pub returns : goal.returns
returns c = ap (t.Expr c.args.spot (Some c.args.word.ty)) (view_of_index c.args.word.number c.args.at)
