use Rattle.sym_weight.proofs.Light.{call_outweighs}
use Rattle.sym_weight.proofs.laws.calls_outweigh.Goals as goal

pub returns : goal.returns
returns c = λ p I. call_outweighs p I
