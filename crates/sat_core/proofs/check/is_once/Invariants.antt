use Rattle.sat_core.proofs.Once.{AreStamped}
use Rattle.sat_core.proofs.check.is_once.Given as goal

abbrev pub invariant-loop-step : goal.invariant-loop-step
invariant-loop-step l = AreStamped l.stamps l.stamp l.steps l.step-index
