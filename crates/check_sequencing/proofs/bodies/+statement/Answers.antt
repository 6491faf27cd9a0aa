use Rattle.std.proofs.Common.{◌≡◌, refl, ◌+◌, ◌∷◌, ◌++◌, [], None, ap, sym, ◌∙◌, drop, append_assoc}
use Rattle.c_core.specs.Tree.{Block, Switch}
use Rattle.c_core.specs.TreeView.{expr_view, form_view, stmts_view, switch_view}
use Rattle.c_core.specs.declared.tree.Arm.{out-Arm}
use Rattle.c_core.proofs.View.{view_of_block, view_of_switch}
use Rattle.c_core.proofs.ArmLaws.{all_from}
use Rattle.check_sequencing.specs.Bodies.{Full, full, fulls, fulls_in, fulls_of_block, fulls_view}
use Rattle.check_sequencing.proofs.bodies.+statement.Goals as goal

pub push_form-returns-in_ok-push_block-in-Block : goal.push_form-returns-in_ok-push_block-in-Block
push_form-returns-in_ok-push_block-in-Block t c =
    let e : form_view c.args.form.now ≡ Block (stmts_view c.in-Block.body) = ap form_view c.in-Block.is ∙ view_of_block c.in-Block.body in
    c.in_ok-push_block-in-Block.ensures
    ∙ ap (λ ss. fulls_view c.args.list.now.items ++ fulls_of_block (stmts_view ss)) c.as_slice-in-Block.ensures
    ∙ sym (ap (λ f. fulls_view c.args.list.now.items ++ fulls_in f) e)

pub push_form-returns-in_ok-push_arms-in-Switch : goal.push_form-returns-in_ok-push_arms-in-Switch
push_form-returns-in_ok-push_arms-in-Switch t c =
    let e : form_view c.args.form.now ≡ Switch (expr_view c.in-Switch.test) (switch_view c.in-Switch.arms) = ap form_view c.in-Switch.is ∙ view_of_switch c.in-Switch.test c.in-Switch.arms in
    c.in_ok-push_arms-in-Switch.ensures
    ∙ ap (λ ss. fulls_view c.push-in-Switch.new.list.items ++ fulls_of_block (switch_view ss)) c.as_slice-in-Switch.ensures
    ∙ ap (λ xs. xs ++ fulls_of_block (switch_view c.in-Switch.arms)) c.in_ok-push-in-Switch.ensures
    ∙ append_assoc (fulls_view c.args.list.now.items) (full None (expr_view c.in-Switch.test) ∷ []) (fulls_of_block (switch_view c.in-Switch.arms))
    ∙ sym (ap (λ f. fulls_view c.args.list.now.items ++ fulls_in f) e)

pub push_arms-loop-arm-preserved : goal.push_arms-loop-arm-preserved
push_arms-loop-arm-preserved t c =
    let rest = fulls_of_block (switch_view (drop (c.loop-arm.arm-index + 1) c.args.arms.now)) in
    let body = fulls_of_block (stmts_view (out-Arm c.arm-item.result).body) in
    ap (λ xs. xs ++ rest) (c.in_ok-push_block.ensures ∙ ap (λ ss. fulls_view c.loop-arm.list.items ++ fulls_of_block (stmts_view ss)) c.as_slice.ensures)
    ∙ append_assoc (fulls_view c.loop-arm.list.items) body rest
    ∙ ap (λ xs. fulls_view c.loop-arm.list.items ++ xs)
    (sym (all_from fulls fulls_of_block refl (λ s b. refl) (λ b spot l. refl) c.args.arms.now c.loop-arm.arm-index c.arm-item.result c.loop-arm-test.true c.arm-item.is))
    ∙ c.loop-arm.invariant
