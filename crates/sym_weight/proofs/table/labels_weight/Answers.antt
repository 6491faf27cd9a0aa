use Rattle.std.proofs.Common.{◌+◌, drop, sym, ap, ◌∙◌}
use Rattle.c_core.specs.Typing.{labels_in}
use Rattle.c_core.specs.View.{switch_view}
use Rattle.c_core.specs.declared.tree.Arm.{out-Arm}
use Rattle.sym_weight.specs.Table.{label_weight, labels_weight}
use Rattle.sym_weight.specs.Tally.{capped}
use Rattle.sym_weight.proofs.Costs.{capped_sum, capped_twice}
use Rattle.sym_weight.proofs.Labels.{labels_from}
use Rattle.sym_weight.proofs.table.labels_weight.Goals as goal

pub loop-arm-preserved : goal.loop-arm-preserved
loop-arm-preserved c =
    let m = c.args.model in
    let ty = c.args.ty in
    let rest = labels_in (switch_view (drop (c.loop-arm.arm-index + 1) c.args.arms.now)) in
    record {
      settled = ap capped c.saturating_add-sum.ensures ∙ capped_twice _ ∙ sym c.saturating_add-sum.ensures;
      value = ap (λ x. capped (x + labels_weight m ty rest)) (c.saturating_add-sum.ensures ∙ ap (λ w. capped (c.loop-arm.sum + w)) c.label_weight.ensures.value)
          ∙ capped_sum c.loop-arm.sum (label_weight m ty (out-Arm c.arm-item.result).label) (labels_weight m ty rest)
          ∙ ap (λ ls. capped (c.loop-arm.sum + labels_weight m ty ls)) (sym (labels_from c.args.arms.now c.loop-arm.arm-index c.arm-item.result c.loop-arm-test.true c.arm-item.is))
          ∙ c.loop-arm.invariant.value;
    }
