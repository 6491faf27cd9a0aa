use Rattle.c_parser.proofs.OrderlyTokens.{text_orderly}
use Rattle.c_parser.proofs.laws.tokens_are_orderly.Goals as goal

pub returns : goal.returns
returns c = text_orderly
