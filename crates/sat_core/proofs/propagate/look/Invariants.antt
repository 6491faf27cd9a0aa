use Rattle.sat_core.specs.Found.{AreSeen}
use Rattle.sat_core.proofs.propagate.look.Given as goal

abbrev pub invariant-loop-number : goal.invariant-loop-number
invariant-loop-number l = AreSeen l.trail.entries.items l.clause l.number-index l.open
