use Rattle.sat_core.specs.Derived.{AreFlagged}
use Rattle.sat_core.proofs.analyze.marked.Given as goal

abbrev pub invariant-loop-variable : goal.invariant-loop-variable
invariant-loop-variable l = AreFlagged l.seen l.numbers l.variable
