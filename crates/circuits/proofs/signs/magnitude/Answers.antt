use Rattle.circuits.proofs.Distances.{magnitude_made}
use Rattle.circuits.proofs.signs.magnitude.Goals as goal

pub returns-clause-value : goal.returns-clause-value
returns-clause-value c = magnitude_made _ _ c.sign-test.ensures c.in_ok-out.ensures.value
