use Rattle.c_core.specs.View.{expr_view, program_view}
use Rattle.sym_weight.proofs.Tallied.{weighed}
use Rattle.sym_weight.proofs.expressions.weight_of.Goals as goal

pub returns : goal.returns
returns c = weighed (program_view c.args.program.now) (expr_view c.args.e.now) c.in_ok-cost.cost c.in_ok-cost.ensures.cost
