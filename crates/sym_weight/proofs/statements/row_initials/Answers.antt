use Rattle.std.proofs.Common.{refl, ap, sym, ◌∙◌}
use Rattle.c_core.specs.View.{program_view, rows_view}
use Rattle.sym_weight.specs.Sum.{row_initials}
use Rattle.sym_weight.specs.Tally.{cost, plus, tallying}
use Rattle.sym_weight.proofs.Costs.{rows_alone}
use Rattle.sym_weight.proofs.statements.row_initials.Goals as goal

pub loop-row-init : goal.loop-row-init
loop-row-init c = record {
  settled = ap (λ s. plus s (cost 0 0)) c.nothing-sum.ensures ∙ sym c.nothing-sum.ensures;
  value = ap (λ s. plus s (row_initials (program_view c.args.program.now) tallying c.args.object (rows_view c.args.rows.now)).cost) c.nothing-sum.ensures
      ∙ rows_alone (program_view c.args.program.now) c.args.object (rows_view c.args.rows.now);
  calls = refl;
}
