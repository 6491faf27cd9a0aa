use Rattle.std.proofs.Common.{◌≡◌, ◌++◌, drop}
use Rattle.c_core.specs.View.{program_view, stmts_view, switch_view}
use Rattle.sym_weight.specs.Sum.{statements}
use Rattle.sym_weight.specs.Tally.{IsCounted, cost, placed_of, plus, tallying}
use Rattle.sym_weight.proofs.statements.+statement.Given as goal

-- with what is left it becomes what the whole gives
abbrev pub invariant-statements-loop-s : goal.invariant-statements-loop-s
invariant-statements-loop-s l = record {
  settled : plus l.sum (cost 0 0) ≡ l.sum;
  value : IsCounted l.weigher.heads
      (plus l.sum (statements (program_view l.weigher.program.now) tallying (placed_of l.weigher) l.returns (stmts_view (drop l.s-index l.body))).cost)
      (statements (program_view l.weigher.program.now) tallying (placed_of l.weigher) l.returns (stmts_view l.body)).cost;
  calls : l.calls.items ++ (statements (program_view l.weigher.program.now) tallying (placed_of l.weigher) l.returns (stmts_view (drop l.s-index l.body))).calls
      ≡ l.initial.calls.items ++ (statements (program_view l.weigher.program.now) tallying (placed_of l.weigher) l.returns (stmts_view l.body)).calls;
}

abbrev pub invariant-statements_of_arms-loop-arm : goal.invariant-statements_of_arms-loop-arm
invariant-statements_of_arms-loop-arm l = record {
  settled : plus l.sum (cost 0 0) ≡ l.sum;
  value : IsCounted l.weigher.heads
      (plus l.sum (statements (program_view l.weigher.program.now) tallying (placed_of l.weigher) l.returns (switch_view (drop l.arm-index l.arms))).cost)
      (statements (program_view l.weigher.program.now) tallying (placed_of l.weigher) l.returns (switch_view l.arms)).cost;
  calls : l.calls.items ++ (statements (program_view l.weigher.program.now) tallying (placed_of l.weigher) l.returns (switch_view (drop l.arm-index l.arms))).calls
      ≡ l.initial.calls.items ++ (statements (program_view l.weigher.program.now) tallying (placed_of l.weigher) l.returns (switch_view l.arms)).calls;
}
