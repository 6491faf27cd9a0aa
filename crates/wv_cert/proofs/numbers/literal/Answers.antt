use Rattle.wv_cert.proofs.Shapes.{literal_answer, no_literal}
use Rattle.wv_cert.proofs.numbers.literal.Goals as goal

pub returns-in_err-size : goal.returns-in_err-size
returns-in_err-size c =
    let none = no_literal c.args.text.now c.passes-negated.new.self c.passes-negated.result c.passes-negated.ensures c.in_err-size.ensures in
    rw c.from_residual.ensures none

pub returns : goal.returns
returns c =
    let read = c.in_ok-size.ensures in
    literal_answer c.args.text.now c.passes-negated.new.self c.number.new.self c.passes-negated.result c.in_ok-size.size c.to_literal.result c.passes-negated.ensures
    read.0 read.1 read.2 c.to_literal.ensures
