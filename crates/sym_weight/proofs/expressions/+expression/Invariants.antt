use Rattle.std.proofs.Common.{◌≡◌, ◌++◌, drop}
use Rattle.c_core.specs.View.{exprs_view, program_view}
use Rattle.sym_weight.specs.Sum.{arguments}
use Rattle.sym_weight.specs.Tally.{cost, plus, tallying}
use Rattle.sym_weight.proofs.expressions.+expression.Given as goal

-- with what is left it becomes what the whole gives
abbrev pub invariant-arguments-loop-e : goal.invariant-arguments-loop-e
invariant-arguments-loop-e l = record {
  settled : plus l.sum (cost 0 0) ≡ l.sum;
  value : plus l.sum (arguments (program_view l.program) tallying (exprs_view (drop l.e-index l.args))).cost ≡ (arguments (program_view l.program) tallying (exprs_view l.args)).cost;
  calls : l.calls.items ++ (arguments (program_view l.program) tallying (exprs_view (drop l.e-index l.args))).calls
      ≡ l.initial.calls.items ++ (arguments (program_view l.program) tallying (exprs_view l.args)).calls;
}
