use Rattle.sat_core.proofs.Deciding.{all_decide}
use Rattle.sat_core.proofs.laws.all_variables_decide.Goals as goal

pub returns : goal.returns
returns c = all_decide
