use Rattle.std.proofs.Common.{◌+◌, ap, ◌∙◌}
use Rattle.sym_weight.specs.Tally.{capped}
use Rattle.sym_weight.proofs.Placing.{weight_added}
use Rattle.sym_weight.proofs.placed.add_weight.Goals as goal

pub returns : goal.returns
returns c = λ q.
    weight_added c.args.spot q c.saturating_add-sum.result c.args.weight c.args.weights.now c.insert.new.self c.in_ok-insert.ensures.updates.0
    (c.saturating_add-sum.ensures ∙ ap (λ x. capped (x + c.args.weight)) c.weight_at.ensures)
