use Rattle.circuits.proofs.answers.+is_zero.Given as goal

abbrev pub decreases-is_zero : goal.decreases-is_zero
decreases-is_zero l = l.splits
