use Rattle.circuits.proofs.Converted.{repeated_none, repeated_next}
use Rattle.circuits.proofs.conversions.repeated.Goals as goal

pub loop-i-init : goal.loop-i-init
loop-i-init c = rw c.new-out.ensures.items (repeated_none _ _)

pub loop-i-preserved : goal.loop-i-preserved
loop-i-preserved c = rw c.in_ok-push.ensures.items (repeated_next _ c.requires.bit_in c.loop-i.invariant)
