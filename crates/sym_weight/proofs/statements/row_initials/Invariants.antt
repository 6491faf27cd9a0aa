use Rattle.std.proofs.Common.{◌≡◌, ◌++◌, drop}
use Rattle.c_core.specs.View.{program_view, rows_view}
use Rattle.sym_weight.specs.Sum.{row_initials}
use Rattle.sym_weight.specs.Tally.{cost, plus, tallying}
use Rattle.sym_weight.proofs.statements.row_initials.Given as goal

-- with what is left it becomes what the whole gives
abbrev pub invariant-loop-row : goal.invariant-loop-row
invariant-loop-row l = record {
  settled : plus l.sum (cost 0 0) ≡ l.sum;
  value : plus l.sum (row_initials (program_view l.program) tallying l.object (rows_view (drop l.row-index l.rows))).cost ≡ (row_initials (program_view l.program) tallying l.object (rows_view l.rows)).cost;
  calls : l.calls.items ++ (row_initials (program_view l.program) tallying l.object (rows_view (drop l.row-index l.rows))).calls
      ≡ l.initial.calls.items ++ (row_initials (program_view l.program) tallying l.object (rows_view l.rows)).calls;
}
