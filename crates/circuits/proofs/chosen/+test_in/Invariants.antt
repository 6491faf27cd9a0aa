use Rattle.circuits.proofs.chosen.+test_in.Given as goal

abbrev pub decreases-test_in : goal.decreases-test_in
decreases-test_in l = l.depth
