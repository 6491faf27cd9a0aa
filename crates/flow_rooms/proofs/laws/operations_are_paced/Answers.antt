use Rattle.flow_rooms.proofs.Paced.{operations_paced}
use Rattle.flow_rooms.proofs.laws.operations_are_paced.Goals as goal

pub returns : goal.returns
returns c = operations_paced
