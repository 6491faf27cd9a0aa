use Rattle.std.proofs.Common.{arith}
use Rattle.circuits.proofs.Converted.{taken_none, taken_next, taken_end}
use Rattle.circuits.proofs.conversions.digits.Goals as goal

pub loop-i-init : goal.loop-i-init
loop-i-init c = rw c.new-out.ensures.items (taken_none _ _)

pub loop-i-preserved : goal.loop-i-preserved
loop-i-preserved c = rw c.in_ok-push.ensures.items (taken_next c.loop-i.invariant c.constant-bit.ensures)

pub returns : goal.returns
returns c = taken_end _ c.loop-i.invariant (omega arith)
