use Rattle.seek_meaning.proofs.Decided.{have_room}
use Rattle.seek_meaning.proofs.laws.few_steps_have_room.Goals as goal

pub returns : goal.returns
returns c = have_room
