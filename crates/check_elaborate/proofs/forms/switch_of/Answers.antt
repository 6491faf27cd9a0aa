use Rattle.c_core.proofs.View.{view_of_switch}
use Rattle.check_elaborate.proofs.forms.switch_of.Goals as goal

pub returns : goal.returns
returns c = view_of_switch c.args.test c.args.arms
