use Rattle.c_inductive.proofs.Selected.{as_many}
use Rattle.c_inductive.proofs.laws.as_many_are_picked.Goals as goal

pub returns : goal.returns
returns c = as_many
