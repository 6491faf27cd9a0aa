use Rattle.std.proofs.Common.{◌≡◌, ◌++◌, ap, sym, ◌∙◌}
use Rattle.c_core.specs.Tree.{Index, Call}
use Rattle.c_core.specs.Parts.{exps_of_arguments, exps_of_node}
use Rattle.c_core.specs.View.{exprs_view, node_view}
use Rattle.c_core.proofs.View.{view_of_index, view_of_call}
use Rattle.view_products.specs.Products.{products_among}
use Rattle.view_products.proofs.expressions.+expression.Goals as goal

pub push_node-returns-in_ok-push_arguments-in-Call : goal.push_node-returns-in_ok-push_arguments-in-Call
push_node-returns-in_ok-push_arguments-in-Call t c =
    let e : node_view c.args.node.now ≡ Call c.in-Call.callee (exprs_view c.in-Call.args) c.in-Call.close = ap node_view c.in-Call.is ∙ view_of_call c.in-Call.callee c.in-Call.args c.in-Call.close in
    c.in_ok-push_arguments-in-Call.ensures
    ∙ ap (λ es. c.args.list.now.items ++ products_among (exps_of_arguments (exprs_view es))) c.as_slice-in-Call.ensures
    ∙ sym (ap (λ n. c.args.list.now.items ++ products_among (exps_of_node n)) e)

pub push_node-returns-in_ok-push_arguments-in-Index : goal.push_node-returns-in_ok-push_arguments-in-Index
push_node-returns-in_ok-push_arguments-in-Index t c =
    let e : node_view c.args.node.now ≡ Index c.in-Index.object (exprs_view c.in-Index.at) = ap node_view c.in-Index.is ∙ view_of_index c.in-Index.object c.in-Index.at in
    c.in_ok-push_arguments-in-Index.ensures
    ∙ ap (λ es. c.args.list.now.items ++ products_among (exps_of_arguments (exprs_view es))) c.as_slice.ensures
    ∙ sym (ap (λ n. c.args.list.now.items ++ products_among (exps_of_node n)) e)
