use Rattle.sym_meaning.proofs.HavocJudged.{is_havoc}
use Rattle.sym_meaning.proofs.laws.havoc_runs_are_judged.Goals as goal

pub returns : goal.returns
returns c = is_havoc
