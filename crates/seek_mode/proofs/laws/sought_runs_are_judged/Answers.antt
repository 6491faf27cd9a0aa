use Rattle.seek_mode.proofs.SoughtJudged.{is_sought}
use Rattle.seek_mode.proofs.laws.sought_runs_are_judged.Goals as goal

pub returns : goal.returns
returns c = is_sought
