use Rattle.sat_core.specs.Answers.{AreFirstValues}
use Rattle.sat_core.proofs.plain.model.Given as goal

abbrev pub invariant-loop-variable : goal.invariant-loop-variable
invariant-loop-variable l = AreFirstValues l.trail.values.items l.variable l.values
