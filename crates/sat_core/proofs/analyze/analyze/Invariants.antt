use Rattle.std.proofs.Common.{length, ◌-◌}
use Rattle.sat_newness.specs.Clauses.{clauses_of}
use Rattle.sat_core.specs.Derived.{IsAnalyzed}
use Rattle.sat_core.proofs.analyze.analyze.Given as goal

abbrev pub invariant-loop-back : goal.invariant-loop-back
invariant-loop-back l = IsAnalyzed (clauses_of l.given l.chains) (length l.trail.values.items) l.trail.entries.items l.conflict (length l.trail.entries.items - l.back) l.steps.items l.seen.items
