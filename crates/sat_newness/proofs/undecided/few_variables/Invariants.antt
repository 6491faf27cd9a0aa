use Rattle.std.proofs.Common.{◌≡◌, ◌+◌, ◌^◌}
use Rattle.sat_newness.proofs.undecided.few_variables.Given as goal

abbrev pub invariant-loop-k : goal.invariant-loop-k
invariant-loop-k l = l.power ≡ 2 ^ (l.k + 2)
