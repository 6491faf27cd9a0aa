use Rattle.c_core.specs.View.{expr_view, program_view}
use Rattle.std.proofs.Common.{◌+◌, ap, ◌∙◌}
use Rattle.sym_weight.specs.Sum.{expression}
use Rattle.sym_weight.specs.Table.{tested}
use Rattle.sym_weight.specs.Tally.{capped}
use Rattle.sym_weight.specs.Weight.{weighing}
use Rattle.sym_weight.proofs.Tallied.{evaluated}
use Rattle.sym_weight.proofs.placed.evaluation.Goals as goal

pub returns : goal.returns
returns c =
    let p = program_view c.args.program.now in
    evaluated c.in_ok-weight.weight (expression p (weighing (λ f. 0)) (expr_view c.args.e.now)) (tested p.model (expr_view c.args.e.now)) c.saturating_add.result c.in_ok-weight.ensures
    (c.saturating_add.ensures ∙ ap (λ t. capped (c.in_ok-weight.weight + (64 + t))) c.tested.ensures.value)
