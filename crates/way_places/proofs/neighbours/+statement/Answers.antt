use Rattle.std.proofs.Common.{◌≡◌, ◌++◌, ap, sym, ◌∙◌, ◌+◌, drop, append_assoc}
use Rattle.c_core.specs.Parts.{statements_of_block, statements_of_form}
use Rattle.c_core.specs.Tree.{Block, Switch}
use Rattle.c_core.specs.View.{expr_view, stmts_view, switch_view, form_view}
use Rattle.c_core.specs.declared.tree.Arm.{out-Arm}
use Rattle.c_core.proofs.View.{view_of_block, view_of_switch}
use Rattle.way_places.specs.Neighbours.{among, pairs_view}
use Rattle.way_places.proofs.ArmLaws.{statements_from}
use Rattle.way_places.proofs.NeighbourLaws.{among_both}
use Rattle.way_places.proofs.neighbours.+statement.Goals as goal

pub push_form-returns-in_ok-push_block-in-Block : goal.push_form-returns-in_ok-push_block-in-Block
push_form-returns-in_ok-push_block-in-Block t c =
    let e : form_view c.args.form.now ≡ Block (stmts_view c.in-Block.body) = ap form_view c.in-Block.is ∙ view_of_block c.in-Block.body in
    c.in_ok-push_block-in-Block.ensures
    ∙ ap (λ ss. pairs_view c.args.list.now.items ++ among (statements_of_block (stmts_view ss))) c.as_slice.ensures
    ∙ sym (ap (λ f. pairs_view c.args.list.now.items ++ among (statements_of_form f)) e)

pub push_arms-loop-arm-preserved : goal.push_arms-loop-arm-preserved
push_arms-loop-arm-preserved t c =
    let rest = among (statements_of_block (switch_view (drop (c.loop-arm.arm-index + 1) c.args.arms.now))) in
    let body = among (statements_of_block (stmts_view (out-Arm c.arm-item.result).body)) in
    ap (λ xs. xs ++ rest) (c.in_ok-push_block.ensures ∙ ap (λ ss. pairs_view c.loop-arm.list.items ++ among (statements_of_block (stmts_view ss))) c.as_slice.ensures)
    ∙ append_assoc (pairs_view c.loop-arm.list.items) body rest
    ∙ ap (λ xs. pairs_view c.loop-arm.list.items ++ xs) (sym (ap among (statements_from c.args.arms.now c.loop-arm.arm-index c.arm-item.result c.loop-arm-test.true c.arm-item.is) ∙ among_both (statements_of_block (stmts_view (out-Arm c.arm-item.result).body)) (statements_of_block (switch_view (drop (c.loop-arm.arm-index + 1) c.args.arms.now)))))
    ∙ c.loop-arm.invariant

pub push_form-returns-in_ok-push_arms-in-Switch : goal.push_form-returns-in_ok-push_arms-in-Switch
push_form-returns-in_ok-push_arms-in-Switch t c =
    let e : form_view c.args.form.now ≡ Switch (expr_view c.in-Switch.test) (switch_view c.in-Switch.arms) = ap form_view c.in-Switch.is ∙ view_of_switch c.in-Switch.test c.in-Switch.arms in
    c.in_ok-push_arms-in-Switch.ensures
    ∙ ap (λ ss. pairs_view c.args.list.now.items ++ among (statements_of_block (switch_view ss))) c.as_slice-in-Switch.ensures
    ∙ sym (ap (λ f. pairs_view c.args.list.now.items ++ among (statements_of_form f)) e)
