use Rattle.std.proofs.Common.{◌≡◌, ap, subst, sym, refl, ◌∙◌, [], ◌∷◌}
use Rattle.c_core.specs.Tree.{Expr, Const, Var, Binary, Logic, Choose, Comma, Assign, Index, Call}
use Rattle.c_core.specs.TreeView.{expr_view, exprs_view, node_view}
use Rattle.c_core.proofs.View.{view_of_index, view_of_call}
use Rattle.check_sequencing.specs.Typed.{Operands, tested, tested_all, tested_in}
use Rattle.check_sequencing.specs.Walking.{IsGone}
use Rattle.check_sequencing.proofs.WalkLaws.{gone_all, gone_both, gone_nothing, gone_one_more, gone_three, same_after}
use Rattle.check_sequencing.proofs.walk.Walk.+walk.Goals as goal

pub expression-returns-clause-gone : goal.expression-returns-clause-gone
expression-returns-clause-gone t c =
    gone_both c.args.self.now c.parts.new.self c.test.new.self (tested_in (node_view c.args.e.now.node)) (Operands (Expr c.args.e.now.spot c.args.e.now.ty (node_view c.args.e.now.node)) ∷ [])
    c.in_ok-parts.ensures.same c.in_ok-parts.ensures.gone c.in_ok-test.ensures.gone

pub parts-returns-in-Const-clause-gone : goal.parts-returns-in-Const-clause-gone
parts-returns-in-Const-clause-gone t c =
    let e : node_view c.args.node.now ≡ Const c.in-Const.field-0 = rw c.in-Const.is refl in
    subst (λ n. IsGone c.args.self.now c.args.self.now (tested_in n)) (sym e) (gone_nothing c.args.self.now c.args.self.now refl)

pub parts-returns-in-Var-clause-gone : goal.parts-returns-in-Var-clause-gone
parts-returns-in-Var-clause-gone t c =
    let e : node_view c.args.node.now ≡ Var c.in-Var.field-0 = rw c.in-Var.is refl in
    subst (λ n. IsGone c.args.self.now c.args.self.now (tested_in n)) (sym e) (gone_nothing c.args.self.now c.args.self.now refl)

pub parts-returns-in_ok-expression-in-Binary-2-clause-gone : goal.parts-returns-in_ok-expression-in-Binary-2-clause-gone
parts-returns-in_ok-expression-in-Binary-2-clause-gone t c =
    let e : node_view c.args.node.now ≡ Binary c.in-Binary.op (expr_view c.deref-in-Binary.result.now) (expr_view c.deref-in-Binary-2.result.now) = rw (c.in-Binary.is, c.deref-in-Binary.ensures, c.deref-in-Binary-2.ensures) refl in
    subst (λ n. IsGone c.args.self.now c.expression-in-Binary-2.new.self (tested_in n)) (sym e)
    (gone_both c.args.self.now c.expression-in-Binary.new.self c.expression-in-Binary-2.new.self (tested (expr_view c.deref-in-Binary.result.now)) (tested (expr_view c.deref-in-Binary-2.result.now)) c.in_ok-expression-in-Binary.ensures.same c.in_ok-expression-in-Binary.ensures.gone c.in_ok-expression-in-Binary-2.ensures.gone)

pub parts-returns-in_ok-expression-in-Logic-2-clause-gone : goal.parts-returns-in_ok-expression-in-Logic-2-clause-gone
parts-returns-in_ok-expression-in-Logic-2-clause-gone t c =
    let e : node_view c.args.node.now ≡ Logic c.in-Logic.both (expr_view c.deref-in-Logic.result.now) (expr_view c.deref-in-Logic-2.result.now) = rw (c.in-Logic.is, c.deref-in-Logic.ensures, c.deref-in-Logic-2.ensures) refl in
    subst (λ n. IsGone c.args.self.now c.expression-in-Logic-2.new.self (tested_in n)) (sym e)
    (gone_both c.args.self.now c.expression-in-Logic.new.self c.expression-in-Logic-2.new.self (tested (expr_view c.deref-in-Logic.result.now)) (tested (expr_view c.deref-in-Logic-2.result.now)) c.in_ok-expression-in-Logic.ensures.same c.in_ok-expression-in-Logic.ensures.gone c.in_ok-expression-in-Logic-2.ensures.gone)

pub parts-returns-in_ok-expression-in-Comma-2-clause-gone : goal.parts-returns-in_ok-expression-in-Comma-2-clause-gone
parts-returns-in_ok-expression-in-Comma-2-clause-gone t c =
    let e : node_view c.args.node.now ≡ Comma (expr_view c.deref-in-Comma.result.now) (expr_view c.deref-in-Comma-2.result.now) = rw (c.in-Comma.is, c.deref-in-Comma.ensures, c.deref-in-Comma-2.ensures) refl in
    subst (λ n. IsGone c.args.self.now c.expression-in-Comma-2.new.self (tested_in n)) (sym e)
    (gone_both c.args.self.now c.expression-in-Comma.new.self c.expression-in-Comma-2.new.self (tested (expr_view c.deref-in-Comma.result.now)) (tested (expr_view c.deref-in-Comma-2.result.now)) c.in_ok-expression-in-Comma.ensures.same c.in_ok-expression-in-Comma.ensures.gone c.in_ok-expression-in-Comma-2.ensures.gone)

pub parts-returns-in_ok-expression-in-Assign-2-clause-gone : goal.parts-returns-in_ok-expression-in-Assign-2-clause-gone
parts-returns-in_ok-expression-in-Assign-2-clause-gone t c =
    let e : node_view c.args.node.now ≡ Assign c.in-Assign.op (expr_view c.deref-in-Assign.result.now) (expr_view c.deref-in-Assign-2.result.now) = rw (c.in-Assign.is, c.deref-in-Assign.ensures, c.deref-in-Assign-2.ensures) refl in
    subst (λ n. IsGone c.args.self.now c.expression-in-Assign-2.new.self (tested_in n)) (sym e)
    (gone_both c.args.self.now c.expression-in-Assign.new.self c.expression-in-Assign-2.new.self (tested (expr_view c.deref-in-Assign.result.now)) (tested (expr_view c.deref-in-Assign-2.result.now)) c.in_ok-expression-in-Assign.ensures.same c.in_ok-expression-in-Assign.ensures.gone c.in_ok-expression-in-Assign-2.ensures.gone)

pub parts-returns-in_ok-expression-in-Choose-3-clause-gone : goal.parts-returns-in_ok-expression-in-Choose-3-clause-gone
parts-returns-in_ok-expression-in-Choose-3-clause-gone t c =
    let e : node_view c.args.node.now ≡ Choose c.in-Choose.mark (expr_view c.deref-in-Choose.result.now) (expr_view c.deref-in-Choose-2.result.now) (expr_view c.deref-in-Choose-3.result.now) = rw (c.in-Choose.is, c.deref-in-Choose.ensures, c.deref-in-Choose-2.ensures, c.deref-in-Choose-3.ensures) refl in
    subst (λ n. IsGone c.args.self.now c.expression-in-Choose-3.new.self (tested_in n)) (sym e)
    (gone_three c.args.self.now c.expression-in-Choose.new.self c.expression-in-Choose-2.new.self c.expression-in-Choose-3.new.self (tested (expr_view c.deref-in-Choose.result.now)) (tested (expr_view c.deref-in-Choose-2.result.now)) (tested (expr_view c.deref-in-Choose-3.result.now))
    c.in_ok-expression-in-Choose.ensures.same (same_after c.args.self.now.source c.expression-in-Choose.new.self.source c.expression-in-Choose-2.new.self.source c.in_ok-expression-in-Choose.ensures.same c.in_ok-expression-in-Choose-2.ensures.same) c.in_ok-expression-in-Choose.ensures.gone c.in_ok-expression-in-Choose-2.ensures.gone c.in_ok-expression-in-Choose-3.ensures.gone)

pub parts-returns-in_ok-arguments-in-Call-clause-gone : goal.parts-returns-in_ok-arguments-in-Call-clause-gone
parts-returns-in_ok-arguments-in-Call-clause-gone t c =
    let e : node_view c.args.node.now ≡ Call c.in-Call.callee (exprs_view c.in-Call.args) c.in-Call.close = ap node_view c.in-Call.is ∙ view_of_call c.in-Call.callee c.in-Call.args c.in-Call.close in
    subst (λ n. IsGone c.args.self.now c.arguments-in-Call.new.self (tested_in n)) (sym e)
    (subst (λ es. IsGone c.args.self.now c.arguments-in-Call.new.self (tested_all (exprs_view es))) c.as_slice-in-Call.ensures c.in_ok-arguments-in-Call.ensures.gone)

pub parts-returns-in_ok-arguments-in-Index-clause-gone : goal.parts-returns-in_ok-arguments-in-Index-clause-gone
parts-returns-in_ok-arguments-in-Index-clause-gone t c =
    let e : node_view c.args.node.now ≡ Index c.in-Index.object (exprs_view c.in-Index.at) = ap node_view c.in-Index.is ∙ view_of_index c.in-Index.object c.in-Index.at in
    subst (λ n. IsGone c.args.self.now c.arguments.new.self (tested_in n)) (sym e)
    (subst (λ es. IsGone c.args.self.now c.arguments.new.self (tested_all (exprs_view es))) c.as_slice.ensures c.in_ok-arguments-in-Index.ensures.gone)

pub arguments-loop-arg-init : goal.arguments-loop-arg-init
arguments-loop-arg-init t c = record {
  ready = c.requires;
  same = record { bodies = refl; objects = refl; count = refl; known = c.requires };
  gone = gone_nothing c.args.self.now c.args.self.now refl;
}

pub arguments-loop-arg-preserved : goal.arguments-loop-arg-preserved
arguments-loop-arg-preserved t c = record {
  ready = c.in_ok-expression.ensures.same.known;
  same = same_after c.args.self.now.source c.loop-arg.self.source c.expression.new.self.source c.loop-arg.invariant.same c.in_ok-expression.ensures.same;
  gone = gone_one_more c.args.self.now c.loop-arg.self c.expression.new.self c.args.args.now c.loop-arg.arg-index c.arg-item.result c.loop-arg-test.true c.arg-item.is c.loop-arg.invariant.same c.loop-arg.invariant.gone c.in_ok-expression.ensures.gone;
}

pub arguments-returns-clause-gone : goal.arguments-returns-clause-gone
arguments-returns-clause-gone t c = gone_all c.args.self.now c.loop-arg.self c.args.args.now c.loop-arg.arg-index c.loop-arg-test.false c.loop-arg.invariant.gone
