use Rattle.source_room.proofs.Programs.{functions_few}
use Rattle.source_room.proofs.laws.functions_are_few.Goals as goal

pub returns : goal.returns
returns c = functions_few
