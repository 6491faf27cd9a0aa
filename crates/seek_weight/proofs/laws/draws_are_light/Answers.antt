use Rattle.seek_weight.proofs.Light.{bits_are_light}
use Rattle.seek_weight.proofs.laws.draws_are_light.Goals as goal

pub returns : goal.returns
returns c = bits_are_light
