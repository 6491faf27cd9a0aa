use Rattle.std.proofs.Common.{◌≡◌, false, replicate}
use Rattle.sat_core.proofs.analyze.unseen.Given as goal

abbrev pub invariant-loop : goal.invariant-loop
invariant-loop l = l.seen.items ≡ replicate l.counter false
