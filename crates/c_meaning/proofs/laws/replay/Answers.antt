use Rattle.c_meaning.proofs.Replayed.{replayed}
use Rattle.c_meaning.proofs.laws.replay.Goals as goal

pub returns : goal.returns
returns c = replayed
