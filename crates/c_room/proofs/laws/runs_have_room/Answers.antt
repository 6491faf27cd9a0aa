use Rattle.c_room.proofs.Roomy.{has_room}
use Rattle.c_room.proofs.laws.runs_have_room.Goals as goal

pub returns : goal.returns
returns c = has_room
