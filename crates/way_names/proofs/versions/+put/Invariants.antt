use Rattle.way_names.proofs.versions.+put.Given as goal

abbrev pub decreases-put : goal.decreases-put
decreases-put l = l.bits
