use Rattle.c_meaning.proofs.Larger.{stays}
use Rattle.c_meaning.proofs.laws.ended_runs_stay.Goals as goal

pub returns : goal.returns
returns c = stays
