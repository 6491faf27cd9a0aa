use Rattle.std.proofs.Common.{length}
use Rattle.sat_newness.specs.Clauses.{clauses_of}
use Rattle.sat_core.specs.Values.{open_variables}
use Rattle.sat_core.specs.Found.{IsBetween}
use Rattle.sat_core.proofs.propagate.propagate.Given as goal

abbrev pub invariant-loop-at : goal.invariant-loop-at
invariant-loop-at l = IsBetween (clauses_of l.given l.chains) (length l.initial.trail.values.items) (open_variables l.initial.trail.values.items) l.trail.values.items l.trail.entries.items

abbrev pub decreases-loop-at : goal.decreases-loop-at
decreases-loop-at l = open_variables l.trail.values.items
