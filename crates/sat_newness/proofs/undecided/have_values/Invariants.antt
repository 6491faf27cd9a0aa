use Rattle.sat_newness.specs.Weights.{HasAllTo}
use Rattle.sat_newness.proofs.undecided.have_values.Given as goal

abbrev pub invariant-loop-before : goal.invariant-loop-before
invariant-loop-before l = HasAllTo l.table l.before
