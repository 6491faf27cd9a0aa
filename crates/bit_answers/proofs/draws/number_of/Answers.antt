use Rattle.bit_answers.proofs.Numbers.{counted_none, counted_next}
use Rattle.std.proofs.Common.{refl}
use Rattle.bit_answers.proofs.draws.number_of.Goals as goal

pub loop-i-init : goal.loop-i-init
loop-i-init c = counted_none _ _

pub loop-i-preserved : goal.loop-i-preserved
loop-i-preserved c = counted_next _ c.args.bits.now c.loop-i.i _ c.loop-i.number c.digit_of-digit.result _ _ c.loop-i-test.true refl c.loop-i.invariant (rw c.value_of_bit.ensures at c.digit_of-digit.ensures) refl
