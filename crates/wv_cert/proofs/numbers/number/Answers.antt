use Rattle.std.proofs.Common.{◌++◌, codes}
use Rattle.std.specs.Fmt.{signed_decimal}
use Rattle.wv_cert.proofs.Shapes.{number_answer, passed, passed_not}
use Rattle.wv_cert.proofs.numbers.number.Goals as goal

pub returns-then-not-passes : goal.returns-then-not-passes
returns-then-not-passes c = λ z rest fine ends is.
    (passed_not (codes " ") c.args.text.now c.passes.new.self c.passes.result c.if-not-passes.true c.passes.ensures).1 (signed_decimal z ++ rest) is

pub returns : goal.returns
returns c =
    let blank = passed (codes " ") c.args.text.now c.passes.new.self c.passes.result c.if-not-passes.false c.passes.ensures in
    number_answer c.args.text.now c.passes.new.self c.literal.new.text c.literal.result blank c.literal.ensures
