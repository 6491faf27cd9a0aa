use Rattle.source_room.proofs.TokenLengths.{tokens_few}
use Rattle.source_room.proofs.laws.tokens_are_few.Goals as goal

pub returns : goal.returns
returns c = tokens_few
