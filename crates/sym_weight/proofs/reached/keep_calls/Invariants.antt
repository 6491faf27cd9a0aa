use Rattle.std.proofs.Common.{ℕ, ◌<◌}
use Rattle.sym_weight.proofs.Reaching.{KeepsCalls}
use Rattle.sym_weight.proofs.reached.keep_calls.Given as goal

-- the functions so far
abbrev pub invariant-loop-number : goal.invariant-loop-number
invariant-loop-number l = (f : ℕ) → f < l.number → KeepsCalls l.marks l.tallies f
