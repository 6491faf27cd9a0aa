use Rattle.std.proofs.Common.{length}
use Rattle.sat_newness.specs.Clauses.{clauses_of}
use Rattle.sat_core.specs.Values.{open_variables}
use Rattle.sat_core.specs.Found.{IsBetween}
use Rattle.sat_core.proofs.plain.search.Given as goal

abbrev pub invariant-loop-conflict : goal.invariant-loop-conflict
invariant-loop-conflict l = IsBetween (clauses_of l.given l.chains) (length l.initial.trail.values.items) (open_variables l.initial.trail.values.items) l.trail.values.items l.trail.entries.items

abbrev pub decreases-loop-conflict : goal.decreases-loop-conflict
decreases-loop-conflict l = open_variables l.trail.values.items
