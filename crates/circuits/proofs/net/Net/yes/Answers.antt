use Rattle.circuits.proofs.Nets.{means_yes}
use Rattle.circuits.proofs.net.Net.yes.Goals as goal

pub returns : goal.returns
returns c = means_yes _ (rw (← c.self.view_is) c.self.invariant.fine)
