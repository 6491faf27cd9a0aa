use Rattle.sym_values.proofs.operators.side.Goals as goal

pub settled-requires-clause-bits_in : goal.settled-requires-clause-bits_in
settled-requires-clause-bits_in c = rw c.as_slice.ensures c.requires.x_in
