use Rattle.c_meaning.proofs.Larger.{continues}
use Rattle.c_meaning.proofs.laws.larger_budget_continues.Goals as goal

pub returns : goal.returns
returns c = continues
