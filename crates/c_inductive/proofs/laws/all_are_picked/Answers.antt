use Rattle.c_inductive.proofs.Selected.{all_are_picked}
use Rattle.c_inductive.proofs.laws.all_are_picked.Goals as goal

pub returns : goal.returns
returns c = all_are_picked
