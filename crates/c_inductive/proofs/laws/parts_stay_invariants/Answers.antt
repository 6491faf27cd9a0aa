use Rattle.c_inductive.proofs.Selected.{parts_stay}
use Rattle.c_inductive.proofs.laws.parts_stay_invariants.Goals as goal

pub returns : goal.returns
returns c = parts_stay
