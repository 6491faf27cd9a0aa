use Rattle.std.proofs.Common.{arith}
use Rattle.circuits.proofs.Unknowns.{zero_digits_none, zero_digits_more, lone}
use Rattle.circuits.proofs.words.lone_digit.Goals as goal

pub loop-bit-init : goal.loop-bit-init
loop-bit-init c = zero_digits_none

pub loop-bit-preserved : goal.loop-bit-preserved
loop-bit-preserved c = zero_digits_more _ _ _ c.loop-bit.invariant c.loop-bit-test.true c.if-bit-ne0.false c.if-not-bit.false

pub returns : goal.returns
returns c = lone c.loop-bit.bit-index c.in_ok-lowest.ensures.cases.0 c.loop-bit.invariant (omega arith)
