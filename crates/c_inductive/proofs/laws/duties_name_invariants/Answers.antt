use Rattle.c_inductive.proofs.Numbered.{duties_name_invariants}
use Rattle.c_inductive.proofs.laws.duties_name_invariants.Goals as goal

pub returns : goal.returns
returns c = duties_name_invariants
