use Rattle.std.proofs.Common.{◌+◌, ◌++◌, ap, sym, ◌∙◌, drop, append_assoc}
use Rattle.c_core.specs.View.{stmts_view, switch_view}
use Rattle.c_core.specs.declared.tree.Arm.{out-Arm}
use Rattle.way_places.specs.Neighbours.{pairs_in, pairs_view}
use Rattle.way_places.proofs.ArmLaws.{pairs_from}
use Rattle.way_places.proofs.neighbours.push_pairs_of_arms.Goals as goal

pub loop-arm-preserved : goal.loop-arm-preserved
loop-arm-preserved c =
    let rest = pairs_in (switch_view (drop (c.loop-arm.arm-index + 1) c.args.arms.now)) in
    let body = pairs_in (stmts_view (out-Arm c.arm-item.result).body) in
    ap (λ xs. xs ++ rest) (c.in_ok-push_pairs.ensures ∙ ap (λ ss. pairs_view c.loop-arm.list.items ++ pairs_in (stmts_view ss)) c.as_slice.ensures)
    ∙ append_assoc (pairs_view c.loop-arm.list.items) body rest
    ∙ ap (λ xs. pairs_view c.loop-arm.list.items ++ xs) (sym (pairs_from c.args.arms.now c.loop-arm.arm-index c.arm-item.result c.loop-arm-test.true c.arm-item.is))
    ∙ c.loop-arm.invariant
