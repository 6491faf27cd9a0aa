use Rattle.std.proofs.Common.{◌+◌, ◌∙◌, ap, sym, drop, List}
use Rattle.c_parser.specs.Tree.{exps}
use Rattle.c_parser.specs.View.{exprs_view, node_view}
use Rattle.c_parser.specs.declared.tree.RawExpr.{RawExpr}
use Rattle.c_parser.proofs.Views.{view_of_index, view_of_call}
use Rattle.way_constraint.specs.Words.{meant, with_words_in, with_words_of}
use Rattle.way_constraint.proofs.ListLaws.{views-next}
use Rattle.way_constraint.proofs.words.+words.Goals as goal

pub push_parts-returns-in_ok-push_all-in-Call : goal.push_parts-returns-in_ok-push_all-in-Call
push_parts-returns-in_ok-push_all-in-Call g c =
    let means = meant c.args.place.now in
    let old = c.args.few.now.items in
    let shape = ap node_view c.in-Call.is ∙ view_of_call c.in-Call.callee c.in-Call.word c.in-Call.args c.in-Call.close in
    c.in_ok-push_all-in-Call.ensures ∙ ap (λ (xs : List RawExpr). with_words_of means (exps (exprs_view xs)) old) c.as_slice-in-Call.ensures ∙ sym (ap (λ n. with_words_in means n old) shape)

pub push_parts-returns-in_ok-push_all-in-Index : goal.push_parts-returns-in_ok-push_all-in-Index
push_parts-returns-in_ok-push_all-in-Index g c =
    let means = meant c.args.place.now in
    let old = c.args.few.now.items in
    let shape = ap node_view c.in-Index.is ∙ view_of_index c.in-Index.object c.in-Index.word c.in-Index.at in
    c.in_ok-push_all-in-Index.ensures ∙ ap (λ (xs : List RawExpr). with_words_of means (exps (exprs_view xs)) old) c.as_slice.ensures ∙ sym (ap (λ n. with_words_in means n old) shape)

pub push_all-loop-e-preserved : goal.push_all-loop-e-preserved
push_all-loop-e-preserved g c =
    let means = meant c.args.place.now in
    let i = c.loop-e.e-index in
    let next = views-next c.args.es.now i c.e-item.result c.loop-e-test.true c.e-item.is in
    ap (with_words_of means (exps (exprs_view (drop (i + 1) c.args.es.now)))) c.in_ok-push_words.ensures
    ∙ sym (ap (λ gs. with_words_of means gs c.loop-e.few.items) next) ∙ c.loop-e.invariant
