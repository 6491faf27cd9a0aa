use Rattle.std.proofs.Common.{◌≡◌, suc, ◌+◌, ◌*◌, ap, sym, ◌∙◌, arith}
use Rattle.c_core.specs.Tree.{Block, DoWhile, For, Switch, While}
use Rattle.c_core.specs.Typing.{labels_in}
use Rattle.c_core.specs.View.{expr_view, expr_view_if, first_view, form_view, stmt_view, stmts_view, switch_view}
use Rattle.c_core.proofs.View.{view_of_block, view_of_switch}
use Rattle.c_meaning.specs.Objects.{type_of}
use Rattle.sym_weight.specs.Table.{chooses}
use Rattle.sym_weight.specs.Tally.{capped}
use Rattle.seek_weight.specs.SeekWeight.{control, control_if, expression, expression_if, first, form, statement, statements}
use Rattle.seek_weight.specs.Tolls.{ATest, toll}
use Rattle.seek_weight.specs.inside.Weighing.{beneath_in, in_walk, program_in, segments_in, weights_in}
use Rattle.seek_weight.proofs.Arms.{arm_on}
use Rattle.seek_weight.proofs.Sums.{sum_of, sum_of_four, turns_of}
use Rattle.seek_weight.proofs.statements.+statement.Goals as goal

pub form-returns-in-Block : goal.form-returns-in-Block
form-returns-in-Block t c =
    let w = c.args.walk in
    let e : form_view c.args.form.now ≡ Block (stmts_view c.in-Block.body) = ap form_view c.in-Block.is ∙ view_of_block c.in-Block.body in
    c.statements.ensures ∙ ap (λ ss. capped (in_walk statements w c.args.returns (stmts_view ss))) c.as_slice-in-Block.ensures
    ∙ sym (ap (λ f. capped (in_walk form w c.args.returns c.args.at f)) e)

pub form-returns-in-While : goal.form-returns-in-While
form-returns-in-While t c =
    let w = c.args.walk in
    let e : form_view c.args.form.now ≡ While (expr_view c.in-While.test) (stmt_view c.in-While.body.value) = ap form_view c.in-While.is in
    turns_of w.turns c.control-in-While.result c.statement-body.result
    (in_walk control w c.args.at (expr_view c.in-While.test)) (in_walk statement w c.args.returns (stmt_view c.in-While.body.value)) c.turns.result
    c.control-in-While.ensures
    (c.statement-body.ensures ∙ ap (λ s. capped (in_walk statement w c.args.returns (stmt_view s))) c.deref-in-While.ensures)
    c.turns.ensures
    ∙ sym (ap (λ f. capped (in_walk form w c.args.returns c.args.at f)) e)

pub form-returns-in-Do : goal.form-returns-in-Do
form-returns-in-Do t c =
    let w = c.args.walk in
    let e : form_view c.args.form.now ≡ DoWhile (stmt_view c.in-Do.body.value) (expr_view c.in-Do.test) = ap form_view c.in-Do.is in
    turns_of w.turns c.control-in-Do.result c.statement-body-in-Do.result
    (in_walk control w c.args.at (expr_view c.in-Do.test)) (in_walk statement w c.args.returns (stmt_view c.in-Do.body.value)) c.turns-in-Do.result
    c.control-in-Do.ensures
    (c.statement-body-in-Do.ensures ∙ ap (λ s. capped (in_walk statement w c.args.returns (stmt_view s))) c.deref-in-Do.ensures)
    c.turns-in-Do.ensures
    ∙ sym (ap (λ f. capped (in_walk form w c.args.returns c.args.at f)) e)

pub form-returns-in-For : goal.form-returns-in-For
form-returns-in-For t c =
    let w = c.args.walk in
    let k = w.turns in
    let start = in_walk first w (first_view c.in-For.start) in
    let test = in_walk control_if w c.args.at (expr_view_if c.in-For.test) in
    let step = in_walk expression_if w (expr_view_if c.in-For.step) in
    let body = in_walk statement w c.args.returns (stmt_view c.in-For.body.value) in
    let e : form_view c.args.form.now ≡ For (first_view c.in-For.start) (expr_view_if c.in-For.test) (expr_view_if c.in-For.step) (stmt_view c.in-For.body.value) = ap form_view c.in-For.is in
    sum_of c.first.result c.turns-in-For.result start (suc k * test + k * (step + body)) c.plus-in-For.result
    c.first.ensures
    (turns_of k c.control_if.result c.plus-body.result test (step + body) c.turns-in-For.result
    c.control_if.ensures
    (sum_of c.expression_if.result c.statement-in-For.result step body c.plus-body.result c.expression_if.ensures
    (c.statement-in-For.ensures ∙ ap (λ s. capped (in_walk statement w c.args.returns (stmt_view s))) c.deref-in-For.ensures)
    c.plus-body.ensures)
    c.turns-in-For.ensures)
    c.plus-in-For.ensures
    ∙ sym (ap (λ f. capped (in_walk form w c.args.returns c.args.at f)) e)

pub form-returns-in-Switch : goal.form-returns-in-Switch
form-returns-in-Switch t c =
    let w = c.args.walk in
    let model = (program_in w).model in
    let test = expr_view c.in-Switch.test in
    let arms = switch_view c.in-Switch.arms in
    let e : form_view c.args.form.now ≡ Switch test arms = ap form_view c.in-Switch.is ∙ view_of_switch c.in-Switch.test c.in-Switch.arms in
    sum_of_four c.test_toll.result c.expression-in-Switch.result c.chooses-choice.result c.statements_of_arms.result
    (toll (program_in w) (segments_in w) ATest c.args.at) (in_walk expression w test) (chooses model (type_of test) (labels_in arms)) (in_walk statements w c.args.returns arms)
    c.plus-inner.result c.plus-in-Switch.result c.plus-in-Switch-2.result
    c.test_toll.ensures c.expression-in-Switch.ensures
    (c.chooses-choice.ensures ∙ ap (λ ty. capped (chooses model ty (labels_in (switch_view c.as_slice-arms.result.now)))) c.type_of.ensures
    ∙ ap (λ xs. capped (chooses model (type_of test) (labels_in (switch_view xs)))) c.as_slice-arms.ensures)
    (c.statements_of_arms.ensures ∙ ap (λ xs. capped (in_walk statements w c.args.returns (switch_view xs))) c.as_slice-arms.ensures)
    c.plus-inner.ensures c.plus-in-Switch.ensures c.plus-in-Switch-2.ensures
    ∙ sym (ap (λ f. capped (in_walk form w c.args.returns c.args.at f)) e)

pub statements_of_arms-loop-arm-preserved : goal.statements_of_arms-loop-arm-preserved
statements_of_arms-loop-arm-preserved t c =
    let w = c.args.walk in
    record {
      settled = omega (arith, c.plus-sum.ensures);
      value = arm_on (program_in w) (weights_in w) w.turns (beneath_in w) c.args.returns c.args.arms.now c.loop-arm.arm-index c.arm-item.result c.as_slice.result.now c.loop-arm.sum c.statements.result
          c.plus-sum.result _ c.loop-arm-test.true c.arm-item.is c.as_slice.ensures c.statements.ensures c.plus-sum.ensures c.loop-arm.invariant.value;
    }
