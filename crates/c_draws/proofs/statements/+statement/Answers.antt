use Rattle.std.proofs.Common.{◌≡◌, ◌+◌, ◌++◌, ap, sym, ◌∙◌, drop, append_assoc}
use Rattle.c_core.specs.Tree.{Block, Switch}
use Rattle.c_core.specs.View.{expr_view, form_view, program_view, stmts_view, switch_view}
use Rattle.c_core.proofs.View.{view_of_block, view_of_switch}
use Rattle.c_core.specs.declared.tree.Arm.{out-Arm}
use Rattle.c_draws.specs.Drawing.{inputs_of, draws_of_block, draws_of_form}
use Rattle.c_draws.proofs.Drawn.{draws_from}
use Rattle.c_draws.proofs.statements.+statement.Goals as goal

pub push_form-returns-in_ok-push_block-in-Block : goal.push_form-returns-in_ok-push_block-in-Block
push_form-returns-in_ok-push_block-in-Block t c =
    let p = program_view c.args.program.now in
    let e : form_view c.args.form.now ≡ Block (stmts_view c.in-Block.body) = ap form_view c.in-Block.is ∙ view_of_block c.in-Block.body in
    c.in_ok-push_block-in-Block.ensures
    ∙ ap (λ ss. c.args.list.now.items ++ draws_of_block p (stmts_view ss)) c.as_slice-in-Block.ensures
    ∙ sym (ap (λ f. c.args.list.now.items ++ draws_of_form p f) e)

pub push_arms-loop-arm-preserved : goal.push_arms-loop-arm-preserved
push_arms-loop-arm-preserved t c =
    let p = program_view c.args.program.now in
    let rest = draws_of_block p (switch_view (drop (c.loop-arm.arm-index + 1) c.args.arms.now)) in
    let body = draws_of_block p (stmts_view (out-Arm c.arm-item.result).body) in
    ap (λ xs. xs ++ rest) (c.in_ok-push_block.ensures ∙ ap (λ ss. c.loop-arm.list.items ++ draws_of_block p (stmts_view ss)) c.as_slice.ensures)
    ∙ append_assoc c.loop-arm.list.items body rest
    ∙ ap (λ xs. c.loop-arm.list.items ++ xs) (sym (draws_from p c.args.arms.now c.loop-arm.arm-index c.arm-item.result c.loop-arm-test.true c.arm-item.is))
    ∙ c.loop-arm.invariant

pub push_form-returns-in_ok-push_arms-in-Switch : goal.push_form-returns-in_ok-push_arms-in-Switch
push_form-returns-in_ok-push_arms-in-Switch t c =
    let p = program_view c.args.program.now in
    let e : form_view c.args.form.now ≡ Switch (expr_view c.in-Switch.test) (switch_view c.in-Switch.arms) = ap form_view c.in-Switch.is ∙ view_of_switch c.in-Switch.test c.in-Switch.arms in
    c.in_ok-push_arms-in-Switch.ensures
    ∙ ap (λ ss. c.push_expression-in-Switch.new.list.items ++ draws_of_block p (switch_view ss)) c.as_slice-in-Switch.ensures
    ∙ ap (λ xs. xs ++ draws_of_block p (switch_view c.in-Switch.arms)) c.in_ok-push_expression-in-Switch.ensures
    ∙ append_assoc c.args.list.now.items (inputs_of (expr_view c.in-Switch.test)) (draws_of_block p (switch_view c.in-Switch.arms))
    ∙ sym (ap (λ f. c.args.list.now.items ++ draws_of_form p f) e)
