use Rattle.std.proofs.Common.{arith}
use Rattle.c_tokens.specs.Reading.{Whole}
use Rattle.c_parser.proofs.OrderlyTokens.{text_orderly}
use Rattle.witval.proofs.tokens.program_tokens.Goals as goal

pub returns-in-Ok-clause-orderly : goal.returns-in-Ok-clause-orderly
returns-in-Ok-clause-orderly c = text_orderly c.args.program.now c.in-Ok.found Whole (omega (arith, c.requires)) c.in-Ok.ensures.found
