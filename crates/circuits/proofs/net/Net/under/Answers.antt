use Rattle.circuits.proofs.net.Net.under.Goals as goal
