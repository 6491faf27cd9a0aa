use Rattle.circuits.proofs.Nets.{means_here}
use Rattle.circuits.proofs.net.Net.and.Goals as goal

pub returns-in-Some-clause-value : goal.returns-in-Some-clause-value
returns-in-Some-clause-value c = means_here _ _ _ _ (rw (← c.self.view_is) c.self.invariant.fine) c.requires.a_in c.requires.b_in c.in-Some.ensures.1
