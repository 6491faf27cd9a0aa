use Rattle.sym_scale.proofs.Weighed.{costs_its_weight}
use Rattle.sym_scale.proofs.laws.obligations_cost_their_weight.Goals as goal

pub returns : goal.returns
returns c p I n = costs_its_weight p I n
