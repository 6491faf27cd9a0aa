use Rattle.way_names.proofs.versions.+found_in.Given as goal

abbrev pub decreases-found_in : goal.decreases-found_in
decreases-found_in l = l.bits
