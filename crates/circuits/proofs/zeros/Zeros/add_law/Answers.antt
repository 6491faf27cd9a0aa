use Rattle.circuits.proofs.zeros.Zeros.add_law.Goals as goal

pub returns : goal.returns
returns c = c.add.ensures
