use Rattle.author_runs.proofs.Returned.{inputs_back}
use Rattle.author_runs.proofs.laws.inputs_come_back.Goals as goal

pub returns : goal.returns
returns c = inputs_back
