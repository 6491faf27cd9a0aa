use Rattle.seek_meaning.proofs.Short.{short}
use Rattle.seek_meaning.proofs.laws.bounded_runs_are_short.Goals as goal

pub returns : goal.returns
returns c = short
