use Rattle.demo_binding.proofs.Judged.{can_be_judged, only_memory}
use Rattle.demo_binding.proofs.laws.sets_can_be_judged.Goals as goal

pub returns-clause-judged : goal.returns-clause-judged
returns-clause-judged c = can_be_judged

pub returns-clause-no_fault : goal.returns-clause-no_fault
returns-clause-no_fault c = only_memory
