use Rattle.flow_rooms.proofs.Rooms.{room_bounded}
use Rattle.flow_rooms.proofs.laws.rooms_are_bounded.Goals as goal

pub returns : goal.returns
returns c = room_bounded
