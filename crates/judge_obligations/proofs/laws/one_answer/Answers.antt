use Rattle.judge_obligations.proofs.Chosen.{chosen}
use Rattle.judge_obligations.proofs.laws.one_answer.Goals as goal

pub returns : goal.returns
returns c = chosen
