use Rattle.circuits.proofs.parts.+value_by_parts.Given as goal

abbrev pub decreases-value_by_parts : goal.decreases-value_by_parts
decreases-value_by_parts l = l.depth
