use Rattle.std.proofs.Common.{◌≡◌, ◌++◌, ap, sym, ◌∙◌, ◌+◌, drop, append_assoc}
use Rattle.c_core.specs.Tree.{Block, Switch}
use Rattle.c_core.specs.View.{expr_view, stmts_view, switch_view, form_view}
use Rattle.c_core.specs.declared.tree.Arm.{out-Arm}
use Rattle.c_core.proofs.View.{view_of_block, view_of_switch}
use Rattle.view_products.specs.Products.{products_in}
use Rattle.way_places.specs.Sought.{each_in_block, each_in_form}
use Rattle.way_places.proofs.ArmLaws.{each_from}
use Rattle.view_products.proofs.bodies.+statement.Goals as goal

pub push_form-returns-in_ok-push_block-in-Block : goal.push_form-returns-in_ok-push_block-in-Block
push_form-returns-in_ok-push_block-in-Block t c =
    let e : form_view c.args.form.now ≡ Block (stmts_view c.in-Block.body) = ap form_view c.in-Block.is ∙ view_of_block c.in-Block.body in
    c.in_ok-push_block-in-Block.ensures
    ∙ ap (λ ss. c.args.list.now.items ++ each_in_block products_in (stmts_view ss)) c.as_slice-in-Block.ensures
    ∙ sym (ap (λ f. c.args.list.now.items ++ each_in_form products_in f) e)

pub push_arms-loop-arm-preserved : goal.push_arms-loop-arm-preserved
push_arms-loop-arm-preserved t c =
    let rest = each_in_block products_in (switch_view (drop (c.loop-arm.arm-index + 1) c.args.arms.now)) in
    let body = each_in_block products_in (stmts_view (out-Arm c.arm-item.result).body) in
    ap (λ xs. xs ++ rest) (c.in_ok-push_block.ensures ∙ ap (λ ss. c.loop-arm.list.items ++ each_in_block products_in (stmts_view ss)) c.as_slice.ensures)
    ∙ append_assoc c.loop-arm.list.items body rest
    ∙ ap (λ xs. c.loop-arm.list.items ++ xs) (sym (each_from c.args.arms.now c.loop-arm.arm-index c.arm-item.result c.loop-arm-test.true c.arm-item.is products_in))
    ∙ c.loop-arm.invariant

pub push_form-returns-in_ok-push_arms-in-Switch : goal.push_form-returns-in_ok-push_arms-in-Switch
push_form-returns-in_ok-push_arms-in-Switch t c =
    let e : form_view c.args.form.now ≡ Switch (expr_view c.in-Switch.test) (switch_view c.in-Switch.arms) = ap form_view c.in-Switch.is ∙ view_of_switch c.in-Switch.test c.in-Switch.arms in
    c.in_ok-push_arms-in-Switch.ensures
    ∙ ap (λ ss. c.push_expression-in-Switch.new.list.items ++ each_in_block products_in (switch_view ss)) c.as_slice-in-Switch.ensures
    ∙ ap (λ xs. xs ++ each_in_block products_in (switch_view c.in-Switch.arms)) c.in_ok-push_expression-in-Switch.ensures
    ∙ append_assoc c.args.list.now.items (products_in (expr_view c.in-Switch.test)) (each_in_block products_in (switch_view c.in-Switch.arms))
    ∙ sym (ap (λ f. c.args.list.now.items ++ each_in_form products_in f) e)
