use Rattle.std.proofs.Common.{rules, ◌≡◌, ◌∙◌, ap, sym, subst, IfOk, OnOk, List, [], ◌∷◌, ◌++◌, ◌+◌, drop, Option, Some}
use Rattle.std.proofs.lemmas.List.{drop_all}
use Rattle.c_core.specs.Tree as t
use Rattle.c_core.specs.View.{expr_view as typed_view, exprs_view as typed_views}
use Rattle.c_core.specs.declared.tree.Callee.{Callee}
use Rattle.c_core.specs.declared.tree.Expr.{Expr}
use Rattle.c_parser.specs.Tree as raw
use Rattle.c_parser.specs.Tree.{exps}
use Rattle.c_parser.specs.View.{expr_view, exprs_view, node_view}
use Rattle.c_parser.specs.declared.tree.RawExpr.{RawExpr}
use Rattle.c_parser.specs.declared.tree.RawNode.{RawNode}
use Rattle.c_parser.proofs.Views.{view_of_index, view_of_call}
use Rattle.check_rules.proofs.NotingLaws.{noted_parts-append}
use Rattle.check_rules.specs.declared.fault.Refusal.{Refusal}
use Rattle.check_rules.specs.Codes.{word_of}
use Rattle.check_rules.specs.Names.{named, is_function}
use Rattle.check_rules.specs.Noting.{noted_parts}
use Rattle.check_rules.specs.Parts.{Value, Target, Effect, parts, parts_in, parts_of}
use Rattle.check_rules.specs.Roles.{role_of}
use Rattle.check_rules.specs.Typed.{typed_node, typed_all, callee_for, number_named, type_named, result_named}
use Rattle.check_types.specs.declared.words.Word.{Word}
use Rattle.check_types.specs.Contexts.{items_in, bodies_in, entries_in}
use Rattle.check_types.specs.Words.{word_at}
use Rattle.check_types.proofs.ListLaws.{before, before_none, before_one_more, views-next}
use Rattle.check_types.proofs.TreeLaws.{noted_both, noted_whole}
use Rattle.check_types.proofs.trees.+expression.Goals as goal

pub whole-returns-clause-noted : goal.whole-returns-clause-noted
whole-returns-clause-noted g c =
    noted_whole c.args.context.now.model (items_in c.args.context.now) (entries_in c.args.context.now) c.args.best.now c.node.new.best c.note_own.result
    (role_of c.args.role) c.args.e.now.spot (node_view c.args.e.now.node) c.in_ok-typed.ensures.noted c.note_own.ensures

pub node-returns-in-Number-clause-typed : goal.node-returns-in-Number-clause-typed
node-returns-in-Number-clause-typed g c =
    c.number.ensures ∙ sym (ap (λ (n : RawNode). typed_node c.args.context.now.model (bodies_in c.args.context.now) (entries_in c.args.context.now) c.args.spot (node_view n)) c.in-Number.is)

pub node-returns-in-Binary : goal.node-returns-in-Binary
node-returns-in-Binary g c =
    let m = c.args.context.now.model in
    let es = entries_in c.args.context.now in
    let shape = ap (λ (x : RawExpr). raw.Binary c.in-Binary.op (expr_view x) (expr_view c.deref-in-Binary-2.result.now)) c.deref-in-Binary.ensures
    ∙ ap (λ (x : RawExpr). raw.Binary c.in-Binary.op (expr_view c.in-Binary.left.value) (expr_view x)) c.deref-in-Binary-2.ensures
    ∙ sym (ap node_view c.in-Binary.is) in
    record {
      typed = subst (λ (n : raw.Node). IfOk c.binary.result (λ (r : Expr). typed_view r ≡ typed_node m (bodies_in c.args.context.now) es c.args.spot n)) shape c.binary.ensures.typed;
      noted = subst (λ (n : raw.Node). OnOk c.binary.result (c.binary.new.best ≡ noted_parts m (items_in c.args.context.now) c.args.best.now (parts_in es n))) shape c.binary.ensures.noted;
    }

pub node-returns-in-Logic : goal.node-returns-in-Logic
node-returns-in-Logic g c =
    let m = c.args.context.now.model in
    let es = entries_in c.args.context.now in
    let shape = ap (λ (x : RawExpr). raw.Logic c.in-Logic.both (expr_view x) (expr_view c.deref-in-Logic-2.result.now)) c.deref-in-Logic.ensures
    ∙ ap (λ (x : RawExpr). raw.Logic c.in-Logic.both (expr_view c.in-Logic.left.value) (expr_view x)) c.deref-in-Logic-2.ensures
    ∙ sym (ap node_view c.in-Logic.is) in
    record {
      typed = subst (λ (n : raw.Node). IfOk c.logic.result (λ (r : Expr). typed_view r ≡ typed_node m (bodies_in c.args.context.now) es c.args.spot n)) shape c.logic.ensures.typed;
      noted = subst (λ (n : raw.Node). OnOk c.logic.result (c.logic.new.best ≡ noted_parts m (items_in c.args.context.now) c.args.best.now (parts_in es n))) shape c.logic.ensures.noted;
    }

pub node-returns-in-Choose : goal.node-returns-in-Choose
node-returns-in-Choose g c =
    let m = c.args.context.now.model in
    let es = entries_in c.args.context.now in
    let shape = ap (λ (x : RawExpr). raw.Choose c.in-Choose.mark (expr_view x) (expr_view c.deref-in-Choose-2.result.now) (expr_view c.deref-in-Choose-3.result.now)) c.deref-in-Choose.ensures
    ∙ ap (λ (x : RawExpr). raw.Choose c.in-Choose.mark (expr_view c.in-Choose.test.value) (expr_view x) (expr_view c.deref-in-Choose-3.result.now)) c.deref-in-Choose-2.ensures
    ∙ ap (λ (x : RawExpr). raw.Choose c.in-Choose.mark (expr_view c.in-Choose.test.value) (expr_view c.in-Choose.yes.value) (expr_view x)) c.deref-in-Choose-3.ensures
    ∙ sym (ap node_view c.in-Choose.is) in
    record {
      typed = subst (λ (n : raw.Node). IfOk c.choice.result (λ (r : Expr). typed_view r ≡ typed_node m (bodies_in c.args.context.now) es c.args.spot n)) shape c.choice.ensures.typed;
      noted = subst (λ (n : raw.Node). OnOk c.choice.result (c.choice.new.best ≡ noted_parts m (items_in c.args.context.now) c.args.best.now (parts_in es n))) shape c.choice.ensures.noted;
    }

pub node-returns-in-Comma : goal.node-returns-in-Comma
node-returns-in-Comma g c =
    let m = c.args.context.now.model in
    let es = entries_in c.args.context.now in
    let shape = ap (λ (x : RawExpr). raw.Comma (expr_view x) (expr_view c.deref-in-Comma-2.result.now)) c.deref-in-Comma.ensures
    ∙ ap (λ (x : RawExpr). raw.Comma (expr_view c.in-Comma.first.value) (expr_view x)) c.deref-in-Comma-2.ensures
    ∙ sym (ap node_view c.in-Comma.is) in
    record {
      typed = subst (λ (n : raw.Node). IfOk c.comma.result (λ (r : Expr). typed_view r ≡ typed_node m (bodies_in c.args.context.now) es c.args.spot n)) shape c.comma.ensures.typed;
      noted = subst (λ (n : raw.Node). OnOk c.comma.result (c.comma.new.best ≡ noted_parts m (items_in c.args.context.now) c.args.best.now (parts_in es n))) shape c.comma.ensures.noted;
    }

pub node-returns-in-Assign : goal.node-returns-in-Assign
node-returns-in-Assign g c =
    let m = c.args.context.now.model in
    let es = entries_in c.args.context.now in
    let shape = ap (λ (x : RawExpr). raw.Assign c.in-Assign.op (expr_view x) (expr_view c.deref-in-Assign-2.result.now)) c.deref-in-Assign.ensures
    ∙ ap (λ (x : RawExpr). raw.Assign c.in-Assign.op (expr_view c.in-Assign.target.value) (expr_view x)) c.deref-in-Assign-2.ensures
    ∙ sym (ap node_view c.in-Assign.is) in
    record {
      typed = subst (λ (n : raw.Node). IfOk c.assign.result (λ (r : Expr). typed_view r ≡ typed_node m (bodies_in c.args.context.now) es c.args.spot n)) shape c.assign.ensures.typed;
      noted = subst (λ (n : raw.Node). OnOk c.assign.result (c.assign.new.best ≡ noted_parts m (items_in c.args.context.now) c.args.best.now (parts_in es n))) shape c.assign.ensures.noted;
    }

pub node-returns-in_ok-at-in-Index-clause-typed : goal.node-returns-in_ok-at-in-Index-clause-typed
node-returns-in_ok-at-in-Index-clause-typed g c =
    let m = c.args.context.now.model in
    let bodies = bodies_in c.args.context.now in
    let es = entries_in c.args.context.now in
    let x = c.in-Index.object in
    let p = c.args.spot in
    let shape = ap node_view c.in-Index.is ∙ view_of_index c.in-Index.object c.in-Index.word c.in-Index.at in
    let word = c.requires ∙ ap (λ (n : raw.Node). word_at es (word_of n)) shape in
    let at = c.in_ok-at-in-Index.ensures.typed ∙ ap (λ (xs : List RawExpr). typed_all m bodies es (exps (exprs_view xs))) c.as_slice.ensures in
    c.index.ensures
    ∙ ap (λ (w : Word). t.Expr p (Some w.ty) (t.Index w.number (typed_views c.in_ok-at-in-Index.at))) word
    ∙ ap (λ (xs : t.Exps). t.Expr p (Some (type_named (named es x))) (t.Index (number_named (named es x)) xs)) at
    ∙ sym (ap (typed_node m bodies es p) shape)

pub node-returns-in_ok-at-in-Index-clause-noted : goal.node-returns-in_ok-at-in-Index-clause-noted
node-returns-in_ok-at-in-Index-clause-noted g c =
    let m = c.args.context.now.model in
    let items = items_in c.args.context.now in
    let es = entries_in c.args.context.now in
    let shape = ap node_view c.in-Index.is ∙ view_of_index c.in-Index.object c.in-Index.word c.in-Index.at in
    c.in_ok-at-in-Index.ensures.noted
    ∙ ap (λ (xs : List RawExpr). noted_parts m items c.args.best.now (parts_of es (exps (exprs_view xs)))) c.as_slice.ensures
    ∙ sym (ap (λ (n : raw.Node). noted_parts m items c.args.best.now (parts_in es n)) shape)

pub node-returns-in_ok-args-in-Call-clause-typed : goal.node-returns-in_ok-args-in-Call-clause-typed
node-returns-in_ok-args-in-Call-clause-typed g c =
    let m = c.args.context.now.model in
    let bodies = bodies_in c.args.context.now in
    let es = entries_in c.args.context.now in
    let f = c.in-Call.callee in
    let p = c.args.spot in
    let shape = ap node_view c.in-Call.is ∙ view_of_call c.in-Call.callee c.in-Call.word c.in-Call.args c.in-Call.close in
    let word = c.requires ∙ ap (λ (n : raw.Node). word_at es (word_of n)) shape in
    let callee = c.callee-callee.ensures
    ∙ ap (λ (w : Word). callee_for w.is_function bodies c.as_str.result.now) word
    ∙ ap (callee_for (is_function (named es f)) bodies) c.as_str.ensures in
    let args = c.in_ok-args-in-Call.ensures.typed ∙ ap (λ (xs : List RawExpr). typed_all m bodies es (exps (exprs_view xs))) c.as_slice-in-Call.ensures in
    c.call.ensures
    ∙ ap (λ (w : Word). t.Expr p w.result (t.Call c.callee-callee.result (typed_views c.in_ok-args-in-Call.args) c.in-Call.close)) word
    ∙ ap (λ (k : Callee). t.Expr p (result_named (named es f)) (t.Call k (typed_views c.in_ok-args-in-Call.args) c.in-Call.close)) callee
    ∙ ap (λ (xs : t.Exps). t.Expr p (result_named (named es f)) (t.Call (callee_for (is_function (named es f)) bodies f) xs c.in-Call.close)) args
    ∙ sym (ap (typed_node m bodies es p) shape)

pub node-returns-in_ok-args-in-Call-clause-noted : goal.node-returns-in_ok-args-in-Call-clause-noted
node-returns-in_ok-args-in-Call-clause-noted g c =
    let m = c.args.context.now.model in
    let items = items_in c.args.context.now in
    let es = entries_in c.args.context.now in
    let shape = ap node_view c.in-Call.is ∙ view_of_call c.in-Call.callee c.in-Call.word c.in-Call.args c.in-Call.close in
    c.in_ok-args-in-Call.ensures.noted
    ∙ ap (λ (xs : List RawExpr). noted_parts m items c.args.best.now (parts_of es (exps (exprs_view xs)))) c.as_slice-in-Call.ensures
    ∙ sym (ap (λ (n : raw.Node). noted_parts m items c.args.best.now (parts_in es n)) shape)

pub binary-returns-clause-noted : goal.binary-returns-clause-noted
binary-returns-clause-noted g c =
    let es = entries_in c.args.context.now in
    noted_both c.args.context.now.model (items_in c.args.context.now) c.args.best.now c.whole.new.best c.whole-2.new.best
    (parts es Value (expr_view c.args.left.now)) (parts es Value (expr_view c.args.right.now)) c.in_ok-left.ensures.noted c.in_ok-right.ensures.noted

pub logic-returns-clause-noted : goal.logic-returns-clause-noted
logic-returns-clause-noted g c =
    let es = entries_in c.args.context.now in
    noted_both c.args.context.now.model (items_in c.args.context.now) c.args.best.now c.whole.new.best c.whole-2.new.best
    (parts es Value (expr_view c.args.left.now)) (parts es Value (expr_view c.args.right.now)) c.in_ok-left.ensures.noted c.in_ok-right.ensures.noted

pub choice-returns-clause-noted : goal.choice-returns-clause-noted
choice-returns-clause-noted g c =
    let m = c.args.context.now.model in
    let items = items_in c.args.context.now in
    let es = entries_in c.args.context.now in
    let test = parts es Value (expr_view c.args.test.now) in
    let yes = parts es Effect (expr_view c.args.yes.now) in
    let no = parts es Effect (expr_view c.args.no.now) in
    noted_both m items c.args.best.now c.whole-2.new.best c.whole-3.new.best (test ++ yes) no
    (noted_both m items c.args.best.now c.whole.new.best c.whole-2.new.best test yes c.in_ok-test.ensures.noted c.in_ok-yes.ensures.noted) c.in_ok-no.ensures.noted

pub comma-returns-clause-noted : goal.comma-returns-clause-noted
comma-returns-clause-noted g c =
    let es = entries_in c.args.context.now in
    noted_both c.args.context.now.model (items_in c.args.context.now) c.args.best.now c.whole.new.best c.whole-2.new.best
    (parts es Effect (expr_view c.args.first.now)) (parts es Effect (expr_view c.args.last.now)) c.in_ok-first.ensures.noted c.in_ok-last.ensures.noted

pub assign-returns-clause-noted : goal.assign-returns-clause-noted
assign-returns-clause-noted g c =
    let es = entries_in c.args.context.now in
    noted_both c.args.context.now.model (items_in c.args.context.now) c.args.best.now c.whole.new.best c.whole-2.new.best
    (parts es Target (expr_view c.args.target.now)) (parts es Value (expr_view c.args.from.now)) c.in_ok-target.ensures.noted c.in_ok-from.ensures.noted

pub values-loop-e-preserved : goal.values-loop-e-preserved
values-loop-e-preserved g c =
    let m = c.args.context.now.model in
    let items = items_in c.args.context.now in
    let es = entries_in c.args.context.now in
    let next = views-next c.args.es.now c.loop-e.e-index c.e-item.result c.loop-e-test.true c.e-item.is in
    let rest = exps (exprs_view (drop (c.loop-e.e-index + 1) c.args.es.now)) in
    let behind = typed_all m (bodies_in c.args.context.now) es rest in
    let pushed : c.push.new.self ≡ c.loop-e.all ++ c.in_ok-typed.typed ∷ [] = search rules in
    record {
      typed = ap (λ (xs : List Expr). before xs behind) pushed
          ∙ before_one_more c.loop-e.all c.in_ok-typed.typed behind
          ∙ ap (λ (x : t.Exp). before c.loop-e.all (t.MoreExp x behind)) c.in_ok-typed.ensures.typed
          ∙ sym (ap (λ (xs : raw.Exps). before c.loop-e.all (typed_all m (bodies_in c.args.context.now) es xs)) next)
          ∙ c.loop-e.invariant.typed;
      noted = ap (λ (b : Option Refusal). noted_parts m items b (parts_of es rest)) c.in_ok-typed.ensures.noted
          ∙ sym (noted_parts-append m items c.loop-e.best (parts es Value (expr_view c.e-item.result)) (parts_of es rest))
          ∙ sym (ap (λ (xs : raw.Exps). noted_parts m items c.loop-e.best (parts_of es xs)) next)
          ∙ c.loop-e.invariant.noted;
    }

pub values-returns-clause-typed : goal.values-returns-clause-typed
values-returns-clause-typed g c =
    let m = c.args.context.now.model in
    let items = items_in c.args.context.now in
    let es = entries_in c.args.context.now in
    sym (before_none c.loop-e.all)
    ∙ ap (λ (xs : List RawExpr). before c.loop-e.all (typed_all m (bodies_in c.args.context.now) es (exps (exprs_view xs)))) (sym (drop_all c.loop-e.e-index c.args.es.now c.loop-e-test.false))
    ∙ c.loop-e.invariant.typed

pub values-returns-clause-noted : goal.values-returns-clause-noted
values-returns-clause-noted g c =
    ap (λ (xs : List RawExpr). noted_parts c.args.context.now.model (items_in c.args.context.now) c.loop-e.best (parts_of (entries_in c.args.context.now) (exps (exprs_view xs)))) (sym (drop_all c.loop-e.e-index c.args.es.now c.loop-e-test.false))
    ∙ c.loop-e.invariant.noted
