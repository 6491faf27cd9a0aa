use Rattle.std.proofs.Common.{◌≡◌, ap, sym, ◌∙◌, subst, arith, IfOk}
use Rattle.c_core.specs.Tree.{Block, If, OrElse, Switch}
use Rattle.c_core.specs.View.{expr_view, form_view, stmt_view, stmts_view, switch_view}
use Rattle.c_core.proofs.View.{view_of_block, view_of_switch}
use Rattle.run_state.specs.Interpreting.{else_part}
use Rattle.flow_code.specs.Sizes.{size_of_form, size_of_block}
use Rattle.flow_code.proofs.Weights.{weight_of_form, weight_of_else, weight_of_block, statement_part, arm_part}
use Rattle.flow_code.proofs.Arms.{size_from}
use Rattle.flow_code.proofs.Blocks.{view_of_if}
use Rattle.flow_code.proofs.sizes.+size_of_statement.Goals as goal

pub size_of_form-size_of_block-requires : goal.size_of_form-size_of_block-requires
size_of_form-size_of_block-requires t c =
    let e : form_view c.args.form.now ≡ Block (stmts_view c.as_slice-in-Block.result.now) =
    ap form_view c.in-Block.is ∙ view_of_block c.in-Block.body ∙ ap (λ b. Block (stmts_view b)) (sym c.as_slice-in-Block.ensures) in
    (omega (arith, c.decreases, ap weight_of_form e), tt)

pub size_of_form-returns-in-Block : goal.size_of_form-returns-in-Block
size_of_form-returns-in-Block t c =
    let e : form_view c.args.form.now ≡ Block (stmts_view c.as_slice-in-Block.result.now) =
    ap form_view c.in-Block.is ∙ view_of_block c.in-Block.body ∙ ap (λ b. Block (stmts_view b)) (sym c.as_slice-in-Block.ensures) in
    subst (λ f. IfOk c.size_of_block.result (λ n. n ≡ size_of_form c.args.depth f)) (sym e) c.size_of_block.ensures

pub size_of_form-size_of_choice-requires : goal.size_of_form-size_of_choice-requires
size_of_form-size_of_choice-requires t c =
    let e : form_view c.args.form.now ≡ If (expr_view c.in-If.test) (stmt_view c.deref.result.now) (else_part c.in-If.no) =
    ap form_view c.in-If.is ∙ view_of_if c.in-If.test c.in-If.yes c.in-If.no ∙ ap (λ s. If (expr_view c.in-If.test) (stmt_view s) (else_part c.in-If.no)) (sym c.deref.ensures) in
    (omega (arith, c.decreases, ap weight_of_form e), tt)

pub size_of_form-returns-in-If : goal.size_of_form-returns-in-If
size_of_form-returns-in-If t c =
    let e : form_view c.args.form.now ≡ If (expr_view c.in-If.test) (stmt_view c.deref.result.now) (else_part c.in-If.no) =
    ap form_view c.in-If.is ∙ view_of_if c.in-If.test c.in-If.yes c.in-If.no ∙ ap (λ s. If (expr_view c.in-If.test) (stmt_view s) (else_part c.in-If.no)) (sym c.deref.ensures) in
    subst (λ f. IfOk c.size_of_choice.result (λ n. n ≡ size_of_form c.args.depth f)) (sym e) c.size_of_choice.ensures

pub size_of_else-size_of_arm-requires : goal.size_of_else-size_of_arm-requires
size_of_else-size_of_arm-requires t c = (omega (arith, c.decreases, ap (λ o. weight_of_else (else_part o)) c.in-Some.is, ap (λ s. weight_of_else (OrElse (stmt_view s))) c.deref.ensures), tt)

pub size_of_statements-size_of_statement-requires : goal.size_of_statements-size_of_statement-requires
size_of_statements-size_of_statement-requires t c =
    (omega (arith, c.decreases, statement_part c.args.body.now c.loop-s.s-index c.s-item.result c.loop-s-test.true c.s-item.is), tt)

pub size_of_form-size_of_switch-requires : goal.size_of_form-size_of_switch-requires
size_of_form-size_of_switch-requires t c =
    let e : form_view c.args.form.now ≡ Switch (expr_view c.in-Switch.test) (switch_view c.as_slice-in-Switch.result.now) =
    ap form_view c.in-Switch.is ∙ view_of_switch c.in-Switch.test c.in-Switch.arms ∙ ap (λ b. Switch (expr_view c.in-Switch.test) (switch_view b)) (sym c.as_slice-in-Switch.ensures) in
    (omega (arith, c.decreases, ap weight_of_form e), tt)

pub size_of_form-returns-in-Switch : goal.size_of_form-returns-in-Switch
size_of_form-returns-in-Switch t c =
    let e : form_view c.args.form.now ≡ Switch (expr_view c.in-Switch.test) (switch_view c.as_slice-in-Switch.result.now) =
    ap form_view c.in-Switch.is ∙ view_of_switch c.in-Switch.test c.in-Switch.arms ∙ ap (λ b. Switch (expr_view c.in-Switch.test) (switch_view b)) (sym c.as_slice-in-Switch.ensures) in
    subst (λ f. IfOk c.size_of_switch.result (λ n. n ≡ size_of_form c.args.depth f)) (sym e) c.size_of_switch.ensures

pub size_of_bodies-size_of_statements-requires : goal.size_of_bodies-size_of_statements-requires
size_of_bodies-size_of_statements-requires t c =
    (omega (arith, c.decreases, ap (λ b. weight_of_block (stmts_view b)) c.as_slice.ensures, arm_part c.args.arms.now c.loop-arm.arm-index c.arm-item.result c.loop-arm-test.true c.arm-item.is), tt)

pub size_of_bodies-loop-arm-preserved : goal.size_of_bodies-loop-arm-preserved
size_of_bodies-loop-arm-preserved t c =
    omega (
      arith,
      c.loop-arm.invariant,
      c.in_ok-sum.ensures,
      c.in_ok-one.ensures,
      ap (λ b. size_of_block c.args.depth (stmts_view b)) c.as_slice.ensures,
      size_from c.args.arms.now c.loop-arm.arm-index c.arm-item.result c.loop-arm-test.true c.arm-item.is c.args.depth,
    )
