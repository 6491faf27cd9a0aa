use Rattle.demo_binding.proofs.Sets.{sets_bound}
use Rattle.demo_binding.proofs.laws.sets_are_bound.Goals as goal

pub returns : goal.returns
returns c = sets_bound
