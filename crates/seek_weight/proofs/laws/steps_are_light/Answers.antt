use Rattle.seek_weight.proofs.Paid.{steps_are_paid}
use Rattle.seek_weight.proofs.laws.steps_are_light.Goals as goal

pub returns : goal.returns
returns c = steps_are_paid
