use Rattle.author_binding.proofs.ConstantTests.{constant_bound}
use Rattle.author_binding.proofs.laws.constants_are_bound.Goals as goal

pub returns : goal.returns
returns c = constant_bound
