use Rattle.std.proofs.Common.{refl}
use Rattle.circuits.proofs.Compared.{truth_means}
use Rattle.circuits.proofs.comparisons.unequal.Goals as goal

pub returns-clause-value : goal.returns-clause-value
returns-clause-value c = truth_means c.in_ok-other.ensures.value c.in_ok-out.ensures (λ v. refl)
