use Rattle.sym_weight.specs.Weight.{most_active}
use Rattle.sym_weight.proofs.Light.{bits_are_light}
use Rattle.sym_weight.proofs.laws.draws_are_light.Goals as goal

pub returns : goal.returns
returns c = λ p I. record { whole = bits_are_light p I (most_active p) p.main; function = bits_are_light p I }
