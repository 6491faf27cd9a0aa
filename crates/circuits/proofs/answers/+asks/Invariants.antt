use Rattle.circuits.proofs.answers.+asks.Given as goal

abbrev pub decreases-asks : goal.decreases-asks
decreases-asks l = l.depth
