use Rattle.std.proofs.Common.{◌≡◌, replicate, None}
use Rattle.sat_core.proofs.trail.no_values.Given as goal

abbrev pub invariant-loop : goal.invariant-loop
invariant-loop l = l.values.items ≡ replicate l.counter None
