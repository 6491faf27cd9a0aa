use Rattle.std.proofs.Common.{◌≡◌, ◌≤◌, ◌^◌, ◌+◌, ◌*◌, get_or, take, sym, arith}
use Rattle.c_tokens.specs.Numbers.{number_in}
use Rattle.c_tokens.proofs.Digits.{more, too_large, whole}
use Rattle.c_tokens.proofs.number.number_in.Goals as goal

pub returns-in_err-number : goal.returns-in_err-number
returns-in_err-number c =
    let i = c.loop-digit.digit-index in
    let n = number_in c.args.radix (take i c.args.digits.now) in
    let same : c.loop-digit.number ≡ n = c.loop-digit.invariant.so_far in
    let over : 2 ^ 64 ≤ c.loop-digit.number * c.args.radix + c.digit_value.result = omega (arith, c.in_err-number.ensures) in
    let large : 2 ^ 64 ≤ more c.args.radix n (get_or c.args.digits.now i 0) = rw (sym same, sym c.digit_value.ensures) over in
    let all : 2 ^ 64 ≤ number_in c.args.radix c.args.digits.now = too_large c.args.radix c.args.digits.now i (2 ^ 64) c.requires c.loop-digit-test.true large in
    rw c.from_residual.ensures (λ small. omega (arith, all, small))

pub returns : goal.returns
returns c =
    whole c.args.radix c.args.digits.now c.loop-digit.digit-index c.loop-digit.number c.loop-digit.invariant.so_far (omega arith) c.loop-digit.invariant.fits
