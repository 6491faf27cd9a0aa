use Rattle.std.proofs.Common.{◌≡◌, [], ◌∷◌, ◌+◌, ◌++◌, ap, drop, sym, ◌∙◌, List}
use Rattle.c_core.specs.Tree.{Form, Block, If, OrElse, Switch}
use Rattle.c_core.specs.View.{expr_view, expr_view_if, first_view, form_view, program_view, stmt_view, stmts_view, switch_view}
use Rattle.c_core.specs.declared.program.Program.{Program}
use Rattle.c_core.specs.declared.tree.Arm.{out-Arm}
use Rattle.c_core.specs.declared.tree.Form.TheVariants.{If as IfThen}
use Rattle.c_meaning.specs.declared.run.Duty.{Duty}
use Rattle.c_meaning.specs.Duties.{property_duties}
use Rattle.c_meaning.specs.Parts.{fulls_of, fulls_of_block, fulls_of_form}
use Rattle.c_core.specs.Parts.{exp_if, fulls_of_first}
use Rattle.c_core.proofs.ArmLaws.{item_first}
use Rattle.c_core.proofs.View.{view_of_block, view_of_switch}
use Rattle.c_duties.proofs.Walked.{fulls_from, then_more, with_the_rest}
use Rattle.c_duties.proofs.walk.+statement.Goals as goal

pub push_block-loop-s-preserved : goal.push_block-loop-s-preserved
push_block-loop-s-preserved t c =
    with_the_rest (program_view c.args.program.now) _ _ (fulls_of (stmt_view c.s-item.result)) (fulls_of_block (stmts_view (drop (c.loop-s.s-index + 1) c.args.body.now))) _ _
    (ap (λ ss. fulls_of_block (stmts_view ss)) (item_first c.args.body.now c.loop-s.s-index c.s-item.result c.loop-s-test.true c.s-item.is))
    c.loop-s.invariant c.in_ok-push_statement.ensures

pub push_form-returns-in_ok-push_block-in-Block : goal.push_form-returns-in_ok-push_block-in-Block
push_form-returns-in_ok-push_block-in-Block t c =
    let e : form_view c.args.form.now ≡ Block (stmts_view c.in-Block.body) = ap form_view c.in-Block.is ∙ view_of_block c.in-Block.body in
    c.in_ok-push_block-in-Block.ensures
    ∙ ap (λ ss. c.args.list.now.items ++ property_duties (program_view c.args.program.now) (fulls_of_block (stmts_view ss))) c.as_slice-in-Block.ensures
    ∙ sym (ap (λ f. c.args.list.now.items ++ property_duties (program_view c.args.program.now) (fulls_of_form f)) e)

-- what stood in the list, and the duties of a statement's full expressions
abbrev With : List Duty → Program → Form → List Duty
With before program form = before ++ property_duties (program_view program) (fulls_of_form form)

pub push_form-returns-in_ok-push_statement-in-If-2 : goal.push_form-returns-in_ok-push_statement-in-If-2
push_form-returns-in_ok-push_statement-in-If-2 t c =
    let p = program_view c.args.program.now in
    let yes = stmt_view c.in-If.yes.value in
    let no = stmt_view c.in-Some.no.value in
    let e : form_view c.args.form.now ≡ If (expr_view c.in-If.test) yes (OrElse no) = ap form_view c.in-If.is ∙ ap (λ n. form_view (IfThen c.in-If.test c.in-If.yes n)) c.in-Some.is in
    then_more p _ _ _ (expr_view c.in-If.test ∷ fulls_of yes) (fulls_of no)
    (then_more p _ _ _ (expr_view c.in-If.test ∷ []) (fulls_of yes) c.in_ok-push-in-If.ensures
    (c.in_ok-push_statement-in-If.ensures ∙ ap (λ s. c.push-in-If.new.list.items ++ property_duties p (fulls_of (stmt_view s))) c.deref.ensures))
    (c.in_ok-push_statement-in-If-2.ensures ∙ ap (λ s. c.push_statement.new.list.items ++ property_duties p (fulls_of (stmt_view s))) c.deref-in-Some.ensures)
    ∙ sym (ap (With c.args.list.now.items c.args.program.now) e)

pub push_form-returns-in_ok-push-in-Do : goal.push_form-returns-in_ok-push-in-Do
push_form-returns-in_ok-push-in-Do t c =
    let p = program_view c.args.program.now in
    let body = stmt_view c.in-Do.body.value in
    then_more p _ _ _ (fulls_of body) (expr_view c.in-Do.test ∷ [])
    (c.in_ok-push_statement-in-Do.ensures ∙ ap (λ s. c.args.list.now.items ++ property_duties p (fulls_of (stmt_view s))) c.deref-in-Do.ensures)
    c.in_ok-push-in-Do.ensures
    ∙ sym (ap (λ f. With c.args.list.now.items c.args.program.now (form_view f)) c.in-Do.is)

pub push_form-returns-in_ok-push_statement-in-For : goal.push_form-returns-in_ok-push_statement-in-For
push_form-returns-in_ok-push_statement-in-For t c =
    let p = program_view c.args.program.now in
    let first = fulls_of_first (first_view c.in-For.first) in
    let test = exp_if (expr_view_if c.in-For.test) in
    let step = exp_if (expr_view_if c.in-For.step) in
    let body = fulls_of (stmt_view c.in-For.body.value) in
    then_more p _ _ _ (first ++ test ++ step) body
    (then_more p _ _ _ (first ++ test) step (then_more p _ _ _ first test c.in_ok-push_first-in-For.ensures c.in_ok-push_if-in-For.ensures) c.in_ok-push_if-in-For-2.ensures)
    (c.in_ok-push_statement-in-For.ensures ∙ ap (λ s. c.push_if-in-For.new.list.items ++ property_duties p (fulls_of (stmt_view s))) c.deref-in-For.ensures)
    ∙ sym (ap (λ f. With c.args.list.now.items c.args.program.now (form_view f)) c.in-For.is)

pub push_arms-loop-arm-preserved : goal.push_arms-loop-arm-preserved
push_arms-loop-arm-preserved t c =
    let p = program_view c.args.program.now in
    with_the_rest p _ _ (fulls_of_block (stmts_view (out-Arm c.arm-item.result).body)) (fulls_of_block (switch_view (drop (c.loop-arm.arm-index + 1) c.args.arms.now))) _ _
    (fulls_from c.args.arms.now c.loop-arm.arm-index c.arm-item.result c.loop-arm-test.true c.arm-item.is)
    c.loop-arm.invariant
    (c.in_ok-push_block.ensures ∙ ap (λ ss. c.loop-arm.list.items ++ property_duties p (fulls_of_block (stmts_view ss))) c.as_slice.ensures)

pub push_form-returns-in_ok-push_arms-in-Switch : goal.push_form-returns-in_ok-push_arms-in-Switch
push_form-returns-in_ok-push_arms-in-Switch t c =
    let p = program_view c.args.program.now in
    let e : form_view c.args.form.now ≡ Switch (expr_view c.in-Switch.test) (switch_view c.in-Switch.arms) = ap form_view c.in-Switch.is ∙ view_of_switch c.in-Switch.test c.in-Switch.arms in
    then_more p _ _ _ (expr_view c.in-Switch.test ∷ []) (fulls_of_block (switch_view c.in-Switch.arms))
    c.in_ok-push-in-Switch.ensures
    (c.in_ok-push_arms-in-Switch.ensures ∙ ap (λ ss. c.push-in-Switch.new.list.items ++ property_duties p (fulls_of_block (switch_view ss))) c.as_slice-in-Switch.ensures)
    ∙ sym (ap (With c.args.list.now.items c.args.program.now) e)
