use Rattle.flow_rooms.proofs.Paced.{code_paced}
use Rattle.flow_rooms.proofs.laws.code_is_paced.Goals as goal

pub returns : goal.returns
returns c = code_paced
