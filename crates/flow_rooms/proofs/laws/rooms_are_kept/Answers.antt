use Rattle.flow_rooms.proofs.Rooms.{code_rooms}
use Rattle.flow_rooms.proofs.laws.rooms_are_kept.Goals as goal

pub returns : goal.returns
returns c = code_rooms
