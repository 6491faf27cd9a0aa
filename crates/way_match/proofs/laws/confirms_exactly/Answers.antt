use Rattle.way_match.proofs.Confirmed.{confirmed_exactly}
use Rattle.way_match.proofs.laws.confirms_exactly.Goals as goal

pub returns : goal.returns
returns c = confirmed_exactly
