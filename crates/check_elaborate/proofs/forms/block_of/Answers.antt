use Rattle.c_core.proofs.View.{view_of_block}
use Rattle.check_elaborate.proofs.forms.block_of.Goals as goal

pub returns : goal.returns
returns c = view_of_block c.args.statements
