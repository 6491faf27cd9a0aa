use Rattle.circuits.proofs.Nets.{grown_not}
use Rattle.circuits.proofs.FactLaws.{means_either}
use Rattle.circuits.proofs.net.Net.together.Goals as goal

pub returns-in-Some-clause-grown : goal.returns-in-Some-clause-grown
returns-in-Some-clause-grown c = grown_not _ _

pub returns-clause-value : goal.returns-clause-value
returns-clause-value c = means_either _ _ _ c.not.ensures c.not-2.ensures c.in_ok-neither.ensures.value c.not-3.ensures
