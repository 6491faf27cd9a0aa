use Rattle.std.proofs.Common.{◌++◌, decimal, arith, sym, ap, ◌∙◌}
use Rattle.wv_cert.proofs.Shapes.{too_many}
use Rattle.wv_cert.proofs.numbers.small.Goals as goal

pub returns-in_err-number : goal.returns-in_err-number
returns-in_err-number c = rw c.from_residual.ensures (λ n rest small ends is. c.in_err-number.ensures n rest (omega (arith, small)) ends is)

pub returns-in_err-small : goal.returns-in_err-small
returns-in_err-small c =
    let read = c.in_ok-number.ensures in
    let none = too_many c.args.text.now c.number.new.self c.in_ok-number.number read.0 read.1 read.2 c.in_err-small.ensures in
    rw c.from_residual-in_err-small.ensures none

pub returns : goal.returns
returns c =
    let read = c.in_ok-number.ensures in
    (omega (arith, c.in_ok-small.ensures.0, c.in_ok-small.ensures.1), read.1 ∙ ap (λ n. decimal n ++ c.number.new.self) (sym c.in_ok-small.ensures.1), read.2)
