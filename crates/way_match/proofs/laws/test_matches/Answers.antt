use Rattle.way_match.proofs.Tested.{tested}
use Rattle.way_match.proofs.laws.test_matches.Goals as goal

pub returns : goal.returns
returns c = tested
