use Rattle.std.proofs.Common.{refl, ap, sym, ◌∙◌}
use Rattle.c_core.specs.View.{exprs_view, program_view}
use Rattle.sym_weight.specs.Sum.{initials}
use Rattle.sym_weight.specs.Tally.{cost, plus, tallying}
use Rattle.sym_weight.proofs.Costs.{initials_alone}
use Rattle.sym_weight.proofs.statements.initials.Goals as goal

pub loop-e-init : goal.loop-e-init
loop-e-init c = record {
  settled = ap (λ s. plus s (cost 0 0)) c.nothing-sum.ensures ∙ sym c.nothing-sum.ensures;
  value = ap (λ s. plus s (initials (program_view c.args.program.now) tallying c.args.object (exprs_view c.args.es.now)).cost) c.nothing-sum.ensures
      ∙ initials_alone (program_view c.args.program.now) c.args.object (exprs_view c.args.es.now);
  calls = refl;
}
