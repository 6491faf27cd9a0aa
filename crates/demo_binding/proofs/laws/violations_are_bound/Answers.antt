use Rattle.demo_binding.proofs.Binding.{violation_bound}
use Rattle.demo_binding.proofs.laws.violations_are_bound.Goals as goal

pub returns : goal.returns
returns c = violation_bound
