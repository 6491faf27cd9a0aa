use Rattle.std.proofs.Common.{◌≡◌, suc, ◌∷◌, ◌++◌, drop, drop-cons, Option, None, Some, refl, ap, sym, ◌∙◌, subst, append_assoc}
use Rattle.std.specs.declared.alloc.Global.{Global}
use Rattle.std.specs.declared.boxed.Box.{Box}
use Rattle.c_calls.specs.Loops.{changed_if, loop_of}
use Rattle.c_core.specs.Tree.{Block, DoWhile, For, If, Switch, While}
use Rattle.c_core.specs.View.{expr_view, expr_view_if, first_view, form_view, program_view, stmt_view, stmts_view, switch_view}
use Rattle.c_core.specs.declared.tree.Expr.{Expr}
use Rattle.c_core.specs.declared.tree.Form as tree
use Rattle.c_core.specs.declared.tree.Stmt.{Stmt}
use Rattle.c_core.proofs.View.{view_of_block, view_of_switch}
use Rattle.c_core.specs.Typing.{labels_in}
use Rattle.c_meaning.specs.Changed.{changed_by}
use Rattle.c_meaning.specs.Meaning.{WhileLoop, DoLoop, ForLoop}
use Rattle.c_meaning.specs.Objects.{type_of}
use Rattle.sym_weight.specs.Sum.{control, control_if, expression, expression_if, first, form, head, otherwise, statement, statements}
use Rattle.sym_weight.specs.Table.{chooses}
use Rattle.sym_weight.specs.Tally.{IsCounted, capped, cost, placed_of, plus, tallying}
use Rattle.sym_weight.specs.Views.{else_of}
use Rattle.sym_weight.proofs.Arms.{calls_of_more, calls_on, costs_on, counted_on, settled_on}
use Rattle.sym_weight.proofs.Costs.{capped_twice, statements_alone}
use Rattle.sym_weight.proofs.Counting.{exactly, five, three}
use Rattle.sym_weight.proofs.statements.+statement.Goals as goal

view_of_if : (e : Expr) (a : Box Stmt Global) (b : Option (Box Stmt Global)) → form_view (tree.If e a b) ≡ If (expr_view e) (stmt_view a.value) (else_of b)
view_of_if e a None = refl
view_of_if e a (Some b) = refl

pub form-returns-in_ok-inner-in-Block-clause-cost : goal.form-returns-in_ok-inner-in-Block-clause-cost
form-returns-in_ok-inner-in-Block-clause-cost t c =
    let p = program_view c.args.weigher.program.now in
    let e : form_view c.args.form.now ≡ Block (stmts_view c.in-Block.body) = ap form_view c.in-Block.is ∙ view_of_block c.in-Block.body in
    subst (λ f. IsCounted c.args.weigher.heads c.in_ok-inner-in-Block.inner (form p tallying (placed_of c.args.weigher) c.args.returns c.args.spot f).cost) (sym e)
    (subst (λ ss. IsCounted c.args.weigher.heads c.in_ok-inner-in-Block.inner (statements p tallying (placed_of c.args.weigher) c.args.returns (stmts_view ss)).cost) c.as_slice-in-Block.ensures
    c.in_ok-inner-in-Block.ensures.cost)

pub form-returns-in_ok-inner-in-Block-clause-calls : goal.form-returns-in_ok-inner-in-Block-clause-calls
form-returns-in_ok-inner-in-Block-clause-calls t c =
    let p = program_view c.args.weigher.program.now in
    let e : form_view c.args.form.now ≡ Block (stmts_view c.in-Block.body) = ap form_view c.in-Block.is ∙ view_of_block c.in-Block.body in
    c.in_ok-inner-in-Block.ensures.calls
    ∙ ap (λ ss. c.args.calls.now.items ++ (statements p tallying (placed_of c.args.weigher) c.args.returns (stmts_view ss)).calls) c.as_slice-in-Block.ensures
    ∙ sym (ap (λ f. c.args.calls.now.items ++ (form p tallying (placed_of c.args.weigher) c.args.returns c.args.spot f).calls) e)

pub form-returns-in_ok-no-in-If-clause-cost : goal.form-returns-in_ok-no-in-If-clause-cost
form-returns-in_ok-no-in-If-clause-cost t c =
    let p = program_view c.args.weigher.program.now in
    let e : form_view c.args.form.now ≡ If (expr_view c.in-If.test) (stmt_view c.in-If.yes.value) (else_of c.in-If.no) = ap form_view c.in-If.is ∙ view_of_if c.in-If.test c.in-If.yes c.in-If.no in
    three c.args.weigher.heads (control p tallying (expr_view c.in-If.test)).cost
    (statement p tallying (placed_of c.args.weigher) c.args.returns (stmt_view c.in-If.yes.value)).cost
    (otherwise p tallying (placed_of c.args.weigher) c.args.returns (else_of c.in-If.no)).cost
    c.in_ok-test-in-If.test c.in_ok-yes-in-If.yes c.in_ok-no-in-If.no _ _ _
    (exactly c.args.weigher.heads _ _ c.in_ok-test-in-If.ensures.cost)
    (subst (λ s. IsCounted c.args.weigher.heads c.in_ok-yes-in-If.yes (statement p tallying (placed_of c.args.weigher) c.args.returns (stmt_view s)).cost) c.deref.ensures c.in_ok-yes-in-If.ensures.cost)
    c.in_ok-no-in-If.ensures.cost c.plus.ensures c.plus-in-If.ensures
    (ap (λ f. (form p tallying (placed_of c.args.weigher) c.args.returns c.args.spot f).cost) e)

pub form-returns-in_ok-body-in-While-clause-cost : goal.form-returns-in_ok-body-in-While-clause-cost
form-returns-in_ok-body-in-While-clause-cost t c =
    let p = program_view c.args.weigher.program.now in
    let e : form_view c.args.form.now ≡ While (expr_view c.in-While.test) (stmt_view c.in-While.body.value) = ap form_view c.in-While.is in
    three c.args.weigher.heads (head p tallying (placed_of c.args.weigher) c.args.spot (changed_by p (WhileLoop (expr_view c.in-While.test) (stmt_view c.in-While.body.value)))).cost
    (control p tallying (expr_view c.in-While.test)).cost
    (statement p tallying (placed_of c.args.weigher) c.args.returns (stmt_view c.in-While.body.value)).cost
    c.in_ok-head-in-While.head c.in_ok-test-in-While.test c.in_ok-body-in-While.body _ _ _
    (subst (λ f. IsCounted c.args.weigher.heads c.in_ok-head-in-While.head (head p tallying (placed_of c.args.weigher) c.args.spot (changed_if p (loop_of f))).cost) e c.in_ok-head-in-While.ensures)
    (exactly c.args.weigher.heads _ _ c.in_ok-test-in-While.ensures.cost)
    (subst (λ s. IsCounted c.args.weigher.heads c.in_ok-body-in-While.body (statement p tallying (placed_of c.args.weigher) c.args.returns (stmt_view s)).cost) c.deref-in-While.ensures c.in_ok-body-in-While.ensures.cost)
    c.plus-in-While.ensures c.plus-in-While-2.ensures
    (ap (λ f. (form p tallying (placed_of c.args.weigher) c.args.returns c.args.spot f).cost) e)

pub form-returns-in_ok-test-in-Do-clause-cost : goal.form-returns-in_ok-test-in-Do-clause-cost
form-returns-in_ok-test-in-Do-clause-cost t c =
    let p = program_view c.args.weigher.program.now in
    let e : form_view c.args.form.now ≡ DoWhile (stmt_view c.in-Do.body.value) (expr_view c.in-Do.test) = ap form_view c.in-Do.is in
    three c.args.weigher.heads (head p tallying (placed_of c.args.weigher) c.args.spot (changed_by p (DoLoop (stmt_view c.in-Do.body.value) (expr_view c.in-Do.test)))).cost
    (statement p tallying (placed_of c.args.weigher) c.args.returns (stmt_view c.in-Do.body.value)).cost
    (control p tallying (expr_view c.in-Do.test)).cost
    c.in_ok-head-in-Do.head c.in_ok-body-in-Do.body c.in_ok-test-in-Do.test _ _ _
    (subst (λ f. IsCounted c.args.weigher.heads c.in_ok-head-in-Do.head (head p tallying (placed_of c.args.weigher) c.args.spot (changed_if p (loop_of f))).cost) e c.in_ok-head-in-Do.ensures)
    (subst (λ s. IsCounted c.args.weigher.heads c.in_ok-body-in-Do.body (statement p tallying (placed_of c.args.weigher) c.args.returns (stmt_view s)).cost) c.deref-in-Do.ensures c.in_ok-body-in-Do.ensures.cost)
    (exactly c.args.weigher.heads _ _ c.in_ok-test-in-Do.ensures.cost)
    c.plus-in-Do.ensures c.plus-in-Do-2.ensures
    (ap (λ f. (form p tallying (placed_of c.args.weigher) c.args.returns c.args.spot f).cost) e)

pub form-returns-in_ok-body-in-For-clause-cost : goal.form-returns-in_ok-body-in-For-clause-cost
form-returns-in_ok-body-in-For-clause-cost t c =
    let p = program_view c.args.weigher.program.now in
    let e : form_view c.args.form.now ≡ For (first_view c.in-For.start) (expr_view_if c.in-For.test) (expr_view_if c.in-For.step) (stmt_view c.in-For.body.value) = ap form_view c.in-For.is in
    five c.args.weigher.heads (first p tallying (first_view c.in-For.start)).cost
    (head p tallying (placed_of c.args.weigher) c.args.spot (changed_by p (ForLoop (expr_view_if c.in-For.test) (expr_view_if c.in-For.step) (stmt_view c.in-For.body.value)))).cost
    (control_if p tallying (expr_view_if c.in-For.test)).cost
    (expression_if p tallying (expr_view_if c.in-For.step)).cost
    (statement p tallying (placed_of c.args.weigher) c.args.returns (stmt_view c.in-For.body.value)).cost
    c.in_ok-start-in-For.start c.in_ok-head-in-For.head c.in_ok-test-in-For.test c.in_ok-step-in-For.step c.in_ok-body-in-For.body _ _ _ _ _
    (exactly c.args.weigher.heads _ _ c.in_ok-start-in-For.ensures.cost)
    (subst (λ f. IsCounted c.args.weigher.heads c.in_ok-head-in-For.head (head p tallying (placed_of c.args.weigher) c.args.spot (changed_if p (loop_of f))).cost) e c.in_ok-head-in-For.ensures)
    (exactly c.args.weigher.heads _ _ c.in_ok-test-in-For.ensures.cost) (exactly c.args.weigher.heads _ _ c.in_ok-step-in-For.ensures.cost)
    (subst (λ s. IsCounted c.args.weigher.heads c.in_ok-body-in-For.body (statement p tallying (placed_of c.args.weigher) c.args.returns (stmt_view s)).cost) c.deref-in-For.ensures c.in_ok-body-in-For.ensures.cost)
    c.plus-in-For.ensures c.plus-in-For-2.ensures c.plus-in-For-3.ensures c.plus-in-For-4.ensures
    (ap (λ f. (form p tallying (placed_of c.args.weigher) c.args.returns c.args.spot f).cost) e)

pub statements-loop-s-init : goal.statements-loop-s-init
statements-loop-s-init t c = record {
  settled = ap (λ s. plus s (cost 0 0)) c.nothing-sum.ensures ∙ sym c.nothing-sum.ensures;
  value = exactly c.args.weigher.heads _ _
      (ap (λ s. plus s (statements (program_view c.args.weigher.program.now) tallying (placed_of c.args.weigher) c.args.returns (stmts_view c.args.body.now)).cost) c.nothing-sum.ensures
      ∙ statements_alone (program_view c.args.weigher.program.now) (placed_of c.args.weigher) c.args.returns (stmts_view c.args.body.now));
  calls = refl;
}

pub statements-loop-s-preserved : goal.statements-loop-s-preserved
statements-loop-s-preserved t c =
    let p = program_view c.args.weigher.program.now in
    let P = placed_of c.args.weigher in
    let i = c.loop-s.s-index in
    let body = c.args.body.now in
    let more : drop i body ≡ c.s-item.result ∷ drop (suc i) body = drop-cons body i c.s-item.result c.loop-s-test.true ∙ ap (λ x. x ∷ drop (suc i) body) (sym c.s-item.is) in
    record {
      settled = settled_on p P c.args.returns c.loop-s.sum c.in_ok-cost.cost _ c.plus-sum.ensures;
      value = counted_on p P c.args.returns c.args.weigher.heads body (drop i body) i c.s-item.result c.loop-s.sum c.in_ok-cost.cost _ _ more c.in_ok-cost.ensures.cost c.plus-sum.ensures c.loop-s.invariant.value;
      calls = calls_of_more p P c.args.returns body (drop i body) i c.s-item.result c.loop-s.calls.items _ _ more c.in_ok-cost.ensures.calls c.loop-s.invariant.calls;
    }

pub statements_of_arms-loop-arm-init : goal.statements_of_arms-loop-arm-init
statements_of_arms-loop-arm-init t c = record {
  settled = ap (λ s. plus s (cost 0 0)) c.nothing-sum.ensures ∙ sym c.nothing-sum.ensures;
  value = exactly c.args.weigher.heads _ _
      (ap (λ s. plus s (statements (program_view c.args.weigher.program.now) tallying (placed_of c.args.weigher) c.args.returns (switch_view c.args.arms.now)).cost) c.nothing-sum.ensures
      ∙ statements_alone (program_view c.args.weigher.program.now) (placed_of c.args.weigher) c.args.returns (switch_view c.args.arms.now));
  calls = refl;
}

pub statements_of_arms-loop-arm-preserved : goal.statements_of_arms-loop-arm-preserved
statements_of_arms-loop-arm-preserved t c =
    let p = program_view c.args.weigher.program.now in
    let P = placed_of c.args.weigher in
    let i = c.loop-arm.arm-index in
    let a = c.arm-item.result in
    record {
      settled = settled_on p P c.args.returns c.loop-arm.sum c.in_ok-cost.cost _ c.plus-sum.ensures;
      value = costs_on p P c.args.returns c.args.weigher.heads c.args.arms.now i a c.as_slice.result.now c.loop-arm.sum c.in_ok-cost.cost _ _ c.loop-arm-test.true c.arm-item.is c.as_slice.ensures c.in_ok-cost.ensures.cost c.plus-sum.ensures c.loop-arm.invariant.value;
      calls = calls_on p P c.args.returns c.args.arms.now i a c.as_slice.result.now c.loop-arm.calls.items _ _ c.loop-arm-test.true c.arm-item.is c.as_slice.ensures c.in_ok-cost.ensures.calls c.loop-arm.invariant.calls;
    }

pub form-returns-in_ok-inner-in-Switch-clause-cost : goal.form-returns-in_ok-inner-in-Switch-clause-cost
form-returns-in_ok-inner-in-Switch-clause-cost t c =
    let p = program_view c.args.weigher.program.now in
    let e : form_view c.args.form.now ≡ Switch (expr_view c.in-Switch.test) (switch_view c.in-Switch.arms) = ap form_view c.in-Switch.is ∙ view_of_switch c.in-Switch.test c.in-Switch.arms in
    three c.args.weigher.heads (expression p tallying (expr_view c.in-Switch.test)).cost
    (cost (chooses p.model (type_of (expr_view c.in-Switch.test)) (labels_in (switch_view c.in-Switch.arms))) 0)
    (statements p tallying (placed_of c.args.weigher) c.args.returns (switch_view c.in-Switch.arms)).cost
    c.in_ok-test-in-Switch.test c.weighs-choice.result c.in_ok-inner-in-Switch.inner _ _ _
    (exactly c.args.weigher.heads _ _ c.in_ok-test-in-Switch.ensures.cost)
    (exactly c.args.weigher.heads _ _ (c.weighs-choice.ensures
    ∙ ap (λ w. cost w 0)
    (c.chooses.ensures ∙ ap (λ ty. capped (chooses p.model ty (labels_in (switch_view c.as_slice-arms.result.now)))) c.type_of.ensures
    ∙ ap (λ arms. capped (chooses p.model (type_of (expr_view c.in-Switch.test)) (labels_in (switch_view arms)))) c.as_slice-arms.ensures)
    ∙ ap (λ w. record { weight = w; bits = capped 0 }) (capped_twice (chooses p.model (type_of (expr_view c.in-Switch.test)) (labels_in (switch_view c.in-Switch.arms))))))
    (subst (λ arms. IsCounted c.args.weigher.heads c.in_ok-inner-in-Switch.inner (statements p tallying (placed_of c.args.weigher) c.args.returns (switch_view arms)).cost) c.as_slice-arms.ensures c.in_ok-inner-in-Switch.ensures.cost)
    c.plus-in-Switch.ensures c.plus-in-Switch-2.ensures
    (ap (λ f. (form p tallying (placed_of c.args.weigher) c.args.returns c.args.spot f).cost) e)

pub form-returns-in_ok-inner-in-Switch-clause-calls : goal.form-returns-in_ok-inner-in-Switch-clause-calls
form-returns-in_ok-inner-in-Switch-clause-calls t c =
    let p = program_view c.args.weigher.program.now in
    let e : form_view c.args.form.now ≡ Switch (expr_view c.in-Switch.test) (switch_view c.in-Switch.arms) = ap form_view c.in-Switch.is ∙ view_of_switch c.in-Switch.test c.in-Switch.arms in
    let all = (statements p tallying (placed_of c.args.weigher) c.args.returns (switch_view c.in-Switch.arms)).calls in
    c.in_ok-inner-in-Switch.ensures.calls
    ∙ ap (λ arms. c.expression-in-Switch.new.calls.items ++ (statements p tallying (placed_of c.args.weigher) c.args.returns (switch_view arms)).calls) c.as_slice-arms.ensures
    ∙ ap (λ xs. xs ++ all) c.in_ok-test-in-Switch.ensures.calls
    ∙ append_assoc c.args.calls.now.items (expression p tallying (expr_view c.in-Switch.test)).calls all
    ∙ sym (ap (λ f. c.args.calls.now.items ++ (form p tallying (placed_of c.args.weigher) c.args.returns c.args.spot f).calls) e)
