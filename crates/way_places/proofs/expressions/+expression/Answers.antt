use Rattle.std.proofs.Common.{◌≡◌, ◌+◌, ap, sym, ◌∙◌, drop}
use Rattle.std.specs.Option.{option_copied}
use Rattle.c_core.specs.Parts.{exps_of, exps_of_arguments, exps_of_node}
use Rattle.c_core.specs.Tree.{Call, Index}
use Rattle.c_core.specs.View.{expr_view, expr_view_if, exprs_view, node_view}
use Rattle.c_core.proofs.ArmLaws.{item_first}
use Rattle.c_core.proofs.View.{view_of_call, view_of_index}
use Rattle.way_places.specs.Seeking.{first_of, is_wanted}
use Rattle.way_places.proofs.SeekingLaws.{first_of_both}
use Rattle.way_places.proofs.expressions.+expression.Goals as goal

pub arguments-loop-e-preserved : goal.arguments-loop-e-preserved
arguments-loop-e-preserved t c =
    ap (λ b. first_of (is_wanted c.args.wanted) b (exps_of_arguments (exprs_view (drop (c.loop-e.e-index + 1) c.args.es.now)))) c.expression-first.ensures
    ∙ sym (first_of_both (is_wanted c.args.wanted) (expr_view_if (option_copied c.loop-e.first)) (exps_of (expr_view c.e-item.result)) (exps_of_arguments (exprs_view (drop (c.loop-e.e-index + 1) c.args.es.now))))
    ∙ sym (ap (λ xs. first_of (is_wanted c.args.wanted) (expr_view_if (option_copied c.loop-e.first)) (exps_of_arguments (exprs_view xs))) (item_first c.args.es.now c.loop-e.e-index c.e-item.result c.loop-e-test.true c.e-item.is))
    ∙ c.loop-e.invariant

pub node-returns-in-Call : goal.node-returns-in-Call
node-returns-in-Call t c =
    let e : node_view c.args.inner.now ≡ Call c.in-Call.callee (exprs_view c.in-Call.args) c.in-Call.close = ap node_view c.in-Call.is ∙ view_of_call c.in-Call.callee c.in-Call.args c.in-Call.close in
    c.arguments-in-Call.ensures
    ∙ ap (λ es. first_of (is_wanted c.args.wanted) (expr_view_if (option_copied c.args.found)) (exps_of_arguments (exprs_view es))) c.as_slice-in-Call.ensures
    ∙ sym (ap (λ n. first_of (is_wanted c.args.wanted) (expr_view_if (option_copied c.args.found)) (exps_of_node n)) e)

pub node-returns-in-Index : goal.node-returns-in-Index
node-returns-in-Index t c =
    let e : node_view c.args.inner.now ≡ Index c.in-Index.object (exprs_view c.in-Index.at) = ap node_view c.in-Index.is ∙ view_of_index c.in-Index.object c.in-Index.at in
    c.arguments.ensures
    ∙ ap (λ es. first_of (is_wanted c.args.wanted) (expr_view_if (option_copied c.args.found)) (exps_of_arguments (exprs_view es))) c.as_slice.ensures
    ∙ sym (ap (λ n. first_of (is_wanted c.args.wanted) (expr_view_if (option_copied c.args.found)) (exps_of_node n)) e)
