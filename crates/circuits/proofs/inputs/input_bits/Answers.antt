use Rattle.std.proofs.Common.{arith}
use Rattle.circuits.proofs.Feeding.{drawing_none, drawing_next, fed_more, fed_wider}
use Rattle.circuits.proofs.inputs.input_bits.Goals as goal

pub loop-i-init : goal.loop-i-init
loop-i-init c = rw c.new-out.ensures.items (drawing_none _)

pub loop-i-preserved : goal.loop-i-preserved
loop-i-preserved c = rw c.in_ok-push.ensures.items (drawing_next c.loop-i.invariant c.in_ok-bit.ensures.added c.in_ok-bit.ensures.value)

pub returns-in_err-push-clause-fed : goal.returns-in_err-push-clause-fed
returns-in_err-push-clause-fed c = fed_wider (fed_more _ c.loop-i.invariant.fed c.in_ok-bit.ensures.added) (omega arith)
