use Rattle.source_room.proofs.ItemLengths.{functions_take}
use Rattle.source_room.proofs.laws.functions_take_tokens.Goals as goal

pub returns : goal.returns
returns c = functions_take
