use Rattle.std.proofs.Common.{◌≡◌}
use Rattle.std.specs.Prelude.{replicate}
use Rattle.sat_newness.proofs.pairs.no_pairs.Given as goal

abbrev pub invariant-loop : goal.invariant-loop
invariant-loop l = l.pairs.items ≡ replicate l.counter (record { one = 0; other = 0 })
