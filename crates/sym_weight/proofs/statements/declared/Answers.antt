use Rattle.std.proofs.Common.{refl, ap, sym, ◌∙◌}
use Rattle.c_core.specs.View.{names_view, program_view}
use Rattle.sym_weight.specs.Sum.{declared}
use Rattle.sym_weight.specs.Tally.{cost, plus, tallying}
use Rattle.sym_weight.proofs.Costs.{declared_alone}
use Rattle.sym_weight.proofs.statements.declared.Goals as goal

pub loop-name-init : goal.loop-name-init
loop-name-init c = record {
  settled = ap (λ s. plus s (cost 0 0)) c.nothing-sum.ensures ∙ sym c.nothing-sum.ensures;
  value = ap (λ s. plus s (declared (program_view c.args.program.now) tallying (names_view c.args.names.now)).cost) c.nothing-sum.ensures
      ∙ declared_alone (program_view c.args.program.now) (names_view c.args.names.now);
  calls = refl;
}
