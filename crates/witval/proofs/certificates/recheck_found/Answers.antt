use Rattle.witval.proofs.certificates.recheck_found.Goals as goal

pub recheck-requires-clause-promised : goal.recheck-requires-clause-promised
recheck-requires-clause-promised c = (_, _, c.requires.promised)
