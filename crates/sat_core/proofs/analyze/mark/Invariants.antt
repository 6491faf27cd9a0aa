use Rattle.sat_core.specs.Derived.{AreMarkedUpTo}
use Rattle.sat_core.proofs.analyze.mark.Given as goal

abbrev pub invariant-loop-number : goal.invariant-loop-number
invariant-loop-number l = AreMarkedUpTo l.initial.seen l.clause l.number-index l.seen
