use Rattle.circuits.proofs.Counting.{zeros_none, zeros_next}
use Rattle.circuits.proofs.Nets.{opp}
use Rattle.circuits.proofs.lists.zeros.Goals as goal

pub loop-i-init : goal.loop-i-init
loop-i-init c = rw c.new-out.ensures.items (zeros_none _)

pub loop-i-preserved : goal.loop-i-preserved
loop-i-preserved c = rw c.in_ok-push.ensures.items (zeros_next c.loop-i.invariant (opp c.not-never.ensures c.yes.ensures))
