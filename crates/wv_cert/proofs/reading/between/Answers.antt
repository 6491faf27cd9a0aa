use Rattle.std.proofs.Common.{◌++◌, decimal, ◌∙◌}
use Rattle.wv_cert.proofs.Logs.{between_read, between_second, between_shape, between_third}
use Rattle.wv_cert.proofs.Shapes.{passed, passed_not}
use Rattle.wv_cert.proofs.reading.between.Goals as goal

pub returns-then-not-passes : goal.returns-then-not-passes
returns-then-not-passes c = λ n rest small is.
    (passed_not c.args.first.now c.args.text.now c.passes.new.self c.passes.result c.if-not-passes.true c.passes.ensures).1
    (decimal n ++ (c.args.last.now ++ rest)) (is ∙ between_shape c.args.first.now c.args.last.now n rest)

pub returns-in_err-number : goal.returns-in_err-number
returns-in_err-number c =
    let first = passed c.args.first.now c.args.text.now c.passes.new.self c.passes.result c.if-not-passes.false c.passes.ensures in
    rw c.from_residual.ensures (λ n rest small is. c.in_err-number.ensures n (c.args.last.now ++ rest) small (c.requires rest)
    (between_second c.args.text.now c.passes.new.self rest c.args.first.now c.args.last.now n first is))

pub returns-then-not-passes-2 : goal.returns-then-not-passes-2
returns-then-not-passes-2 c = λ n rest small is.
    let first = passed c.args.first.now c.args.text.now c.passes.new.self c.passes.result c.if-not-passes.false c.passes.ensures in
    let read = c.in_ok-number.ensures in
    let none = passed_not c.args.last.now c.number.new.self c.passes-2.new.self c.passes-2.result c.if-not-passes-2.true c.passes-2.ensures in
    none.1 rest (between_third c.args.text.now c.passes.new.self c.number.new.self rest c.args.first.now c.args.last.now c.in_ok-number.number n c.requires first
    read.0 read.1 read.2 small is).1

pub returns : goal.returns
returns c =
    let first = passed c.args.first.now c.args.text.now c.passes.new.self c.passes.result c.if-not-passes.false c.passes.ensures in
    let last = passed c.args.last.now c.number.new.self c.passes-2.new.self c.passes-2.result c.if-not-passes-2.false c.passes-2.ensures in
    let read = c.in_ok-number.ensures in
    (read.0, between_read c.args.text.now c.passes.new.self c.number.new.self c.passes-2.new.self c.args.first.now c.args.last.now c.in_ok-number.number first read.1 last)
