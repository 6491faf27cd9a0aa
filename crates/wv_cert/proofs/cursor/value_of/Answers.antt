use Rattle.std.proofs.Common.{◌^◌, sym, ◌∙◌, arith}
use Rattle.wv_cert.proofs.Digits.{each_is_digit, one_more, too_large}
use Rattle.wv_cert.proofs.cursor.value_of.Goals as goal

pub one_more_digit-requires : goal.one_more_digit-requires
one_more_digit-requires c = each_is_digit c.args.digits.now c.loop-digit.digit-index c.requires c.loop-digit-test.true

pub returns-in_err-number : goal.returns-in_err-number
returns-in_err-number c =
    let all = too_large c.args.digits.now c.loop-digit.digit-index c.loop-digit.number (2 ^ 64) c.requires c.loop-digit-test.true
    c.loop-digit.invariant.so_far (omega (arith, c.in_err-number.ensures)) in
    rw c.from_residual.ensures (λ small. omega (arith, all, small))

pub loop-digit-preserved : goal.loop-digit-preserved
loop-digit-preserved c =
    let more = one_more c.args.digits.now c.loop-digit.digit-index c.loop-digit.number c.requires c.loop-digit-test.true
    c.loop-digit.invariant.so_far in
    record { so_far = c.in_ok-number.ensures.1 ∙ sym more; fits = omega (arith, c.in_ok-number.ensures.0, c.in_ok-number.ensures.1) }
