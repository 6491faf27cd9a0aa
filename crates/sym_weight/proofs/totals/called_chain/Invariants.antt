use Rattle.std.proofs.Common.{◌≡◌, max, drop}
use Rattle.sym_weight.specs.Tally.{capped}
use Rattle.sym_weight.specs.Totals.{called_chain}
use Rattle.sym_weight.proofs.totals.called_chain.Given as goal

-- with what is left it becomes what the whole gives
abbrev pub invariant-loop-function : goal.invariant-loop-function
invariant-loop-function l = record {
  settled : capped l.longest ≡ l.longest;
  value : capped (max l.longest (called_chain l.all (drop l.function-index l.calls))) ≡ capped (called_chain l.all l.calls);
}
