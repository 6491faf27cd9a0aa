use Rattle.std.proofs.Common.{◌≡◌, ◌+◌, drop}
use Rattle.sym_weight.specs.Tally.{capped}
use Rattle.sym_weight.specs.Totals.{called_weight}
use Rattle.sym_weight.proofs.totals.called_weight.Given as goal

-- with what is left it becomes what the whole gives
abbrev pub invariant-loop-function : goal.invariant-loop-function
invariant-loop-function l = record {
  settled : capped l.sum ≡ l.sum;
  value : capped (l.sum + called_weight l.all (drop l.function-index l.calls)) ≡ capped (called_weight l.all l.calls);
}
