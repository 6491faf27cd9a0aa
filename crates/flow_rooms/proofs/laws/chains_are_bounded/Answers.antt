use Rattle.flow_rooms.proofs.Chains.{chains_bounded}
use Rattle.flow_rooms.proofs.laws.chains_are_bounded.Goals as goal

pub returns : goal.returns
returns c = chains_bounded
