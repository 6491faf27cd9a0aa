use Rattle.c_lifting.proofs.AllRuns.{all_runs}
use Rattle.c_lifting.proofs.laws.runs_are_lifted.Goals as goal

pub returns : goal.returns
returns c p h none I all = all_runs p h I none all
