use Rattle.circuits.proofs.Nets.{opp}
use Rattle.circuits.proofs.Compared.{not_not, truth_means}
use Rattle.circuits.proofs.comparisons.equal.Goals as goal

pub returns-clause-value : goal.returns-clause-value
returns-clause-value c = truth_means (opp c.not.ensures c.in_ok-other.ensures.value) c.in_ok-out.ensures (λ v. not_not _)
