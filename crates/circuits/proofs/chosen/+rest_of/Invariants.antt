use Rattle.circuits.proofs.chosen.+rest_of.Given as goal

abbrev pub decreases-rest_of : goal.decreases-rest_of
decreases-rest_of l = l.depth
