use Rattle.way_match.proofs.Confirmed.{confirmed}
use Rattle.way_match.proofs.laws.confirmed_violates.Goals as goal

pub returns : goal.returns
returns c = confirmed
