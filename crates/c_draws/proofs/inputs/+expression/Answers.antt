use Rattle.std.proofs.Common.{◌≡◌, ◌++◌, ap, sym, ◌∙◌}
use Rattle.c_core.specs.Tree.{Index, Call}
use Rattle.c_core.specs.TreeView.{exprs_view, node_view}
use Rattle.c_core.proofs.View.{view_of_index, view_of_call}
use Rattle.c_draws.specs.Drawing.{inputs_in, inputs_of_arguments}
use Rattle.c_draws.proofs.inputs.+expression.Goals as goal

pub push_node-returns-in_ok-push_arguments-in-Call : goal.push_node-returns-in_ok-push_arguments-in-Call
push_node-returns-in_ok-push_arguments-in-Call t c =
    let e : node_view c.args.node.now ≡ Call c.in-Call.callee (exprs_view c.in-Call.args) c.in-Call.close = ap node_view c.in-Call.is ∙ view_of_call c.in-Call.callee c.in-Call.args c.in-Call.close in
    c.in_ok-push_arguments-in-Call.ensures
    ∙ ap (λ es. c.args.list.now.items ++ inputs_of_arguments (exprs_view es)) c.as_slice-in-Call.ensures
    ∙ sym (ap (λ n. c.args.list.now.items ++ inputs_in n) e)

pub push_node-returns-in_ok-push_arguments-in-Index : goal.push_node-returns-in_ok-push_arguments-in-Index
push_node-returns-in_ok-push_arguments-in-Index t c =
    let e : node_view c.args.node.now ≡ Index c.in-Index.object (exprs_view c.in-Index.at) = ap node_view c.in-Index.is ∙ view_of_index c.in-Index.object c.in-Index.at in
    c.in_ok-push_arguments-in-Index.ensures
    ∙ ap (λ es. c.args.list.now.items ++ inputs_of_arguments (exprs_view es)) c.as_slice.ensures
    ∙ sym (ap (λ n. c.args.list.now.items ++ inputs_in n) e)
