use Rattle.std.proofs.Common.{rules, ◌≡◌, ◌∙◌, ap, sym, List, [], ◌∷◌, ◌++◌, ◌+◌, drop}
use Rattle.std.proofs.lemmas.List.{drop_all}
use Rattle.std.proofs.lemmas.Result.{IfOk-weaker}
use Rattle.c_core.specs.Tree as t
use Rattle.c_core.specs.View.{exprs_view, node_view}
use Rattle.c_core.specs.declared.tree.Expr.{Expr}
use Rattle.c_core.specs.declared.tree.Node.{Node}
use Rattle.c_core.proofs.View.{view_of_index, view_of_call}
use Rattle.wv_weed.proofs.Copied.{before, before_none, before_one_more, views_next}
use Rattle.wv_weed.proofs.copies.+copy.Goals as goal

pub node-returns-in-Index : goal.node-returns-in-Index
node-returns-in-Index g c =
    IfOk-weaker c.element.result
    (λ (r : Node). node_view r ≡ t.Index c.in-Index.object (exprs_view c.as_slice.result.now))
    (λ (r : Node). node_view r ≡ node_view c.args.inner.now)
    (λ r e. e ∙ ap (λ (es : List Expr). t.Index c.in-Index.object (exprs_view es)) c.as_slice.ensures
    ∙ sym (view_of_index c.in-Index.object c.in-Index.at) ∙ sym (ap node_view c.in-Index.is))
    c.element.ensures

pub node-returns-in-Call : goal.node-returns-in-Call
node-returns-in-Call g c =
    let is = c.in-Call in
    IfOk-weaker c.call.result
    (λ (r : Node). node_view r ≡ t.Call is.callee (exprs_view c.as_slice-in-Call.result.now) is.close)
    (λ (r : Node). node_view r ≡ node_view c.args.inner.now)
    (λ r e. e ∙ ap (λ (es : List Expr). t.Call is.callee (exprs_view es) is.close) c.as_slice-in-Call.ensures
    ∙ sym (view_of_call is.callee is.args is.close) ∙ sym (ap node_view is.is))
    c.call.ensures

pub element-returns : goal.element-returns
element-returns g c =
    view_of_index c.args.object c.in_ok-at.at ∙ ap (t.Index c.args.object) c.in_ok-at.ensures

pub call-returns : goal.call-returns
call-returns g c =
    view_of_call c.args.callee c.in_ok-args.args c.args.close
    ∙ ap (λ (xs : t.Exps). t.Call c.args.callee xs c.args.close) c.in_ok-args.ensures

pub expressions-loop-e-preserved : goal.expressions-loop-e-preserved
expressions-loop-e-preserved g c =
    let next = views_next c.args.es.now c.loop-e.e-index c.e-item.result c.loop-e-test.true c.e-item.is in
    let rest = exprs_view (drop (c.loop-e.e-index + 1) c.args.es.now) in
    let pushed : c.push.new.self ≡ c.loop-e.all ++ c.in_ok-copy.copy ∷ [] = search rules in
    ap (λ (xs : List Expr). before xs rest) pushed
    ∙ before_one_more c.loop-e.all c.in_ok-copy.copy rest
    ∙ ap (λ (x : t.Exp). before c.loop-e.all (t.MoreExp x rest)) c.in_ok-copy.ensures
    ∙ sym (ap (before c.loop-e.all) next)
    ∙ c.loop-e.invariant

pub expressions-returns : goal.expressions-returns
expressions-returns g c =
    sym (before_none c.loop-e.all)
    ∙ ap (λ (xs : List Expr). before c.loop-e.all (exprs_view xs))
    (sym (drop_all c.loop-e.e-index c.args.es.now c.loop-e-test.false))
    ∙ c.loop-e.invariant
