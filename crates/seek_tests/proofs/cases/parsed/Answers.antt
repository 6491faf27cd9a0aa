use Rattle.std.proofs.Common.{◌<◌, ◌^◌, length, arith}
use Rattle.c_tokens.specs.Reading.{Whole}
use Rattle.c_parser.proofs.OrderlyTokens.{text_orderly}
use Rattle.seek_tests.proofs.cases.parsed.Goals as goal

pub parse-requires : goal.parse-requires
parse-requires c =
    let short : length c.args.text.now < 2 ^ 30 = omega (arith, c.if-text-gt-MAX_LENGTH.false) in
    text_orderly c.args.text.now c.in-Ok.found Whole short c.in-Ok.ensures.found
