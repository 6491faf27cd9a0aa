use Rattle.polynomials.proofs.Reducing.{by_start, by_more}
use Rattle.polynomials.proofs.division.divide.Goals as goal

pub loop-step-init : goal.loop-step-init
loop-step-init c = rw c.in_ok-rest.ensures (by_start _ _ _)

pub loop-step-preserved : goal.loop-step-preserved
loop-step-preserved c = by_more c.loop-step.invariant (rw c.in-Some.is at c.in_ok-less.ensures)
