use Rattle.circuits.proofs.answers.+part_where.Given as goal

abbrev pub decreases-part_where : goal.decreases-part_where
decreases-part_where l = l.depth
