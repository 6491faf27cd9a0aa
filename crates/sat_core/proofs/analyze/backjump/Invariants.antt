use Rattle.sat_core.specs.Derived.{AreBelow}
use Rattle.sat_core.proofs.analyze.backjump.Given as goal

abbrev pub invariant-loop-at : goal.invariant-loop-at
invariant-loop-at l = AreBelow l.trail.entries.items l.at l.above
