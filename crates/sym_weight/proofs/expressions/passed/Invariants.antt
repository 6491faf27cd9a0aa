use Rattle.std.proofs.Common.{◌≡◌, ◌+◌, drop}
use Rattle.c_core.specs.View.{exprs_view, program_view}
use Rattle.sym_weight.specs.Table.{passed}
use Rattle.sym_weight.specs.Tally.{capped}
use Rattle.sym_weight.proofs.expressions.passed.Given as goal

-- with what is left it becomes what the whole gives
abbrev pub invariant-loop-index : goal.invariant-loop-index
invariant-loop-index l = record {
  settled : capped l.sum ≡ l.sum;
  value : capped (l.sum + passed (program_view l.program) (drop l.index l.params) (exprs_view (drop l.index l.args)))
      ≡ capped (passed (program_view l.program) l.params (exprs_view l.args));
}
