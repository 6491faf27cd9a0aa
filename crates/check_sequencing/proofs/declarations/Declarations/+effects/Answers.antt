use Rattle.std.proofs.Common.{◌≡◌, ◌++◌, ap, sym, ◌∙◌}
use Rattle.c_core.specs.TreeView.{exprs_view, node_view}
use Rattle.c_core.specs.Tree.{Index, Call}
use Rattle.c_core.proofs.View.{view_of_index, view_of_call}
use Rattle.check_sequencing.specs.Typed.{effects_all, inner}
use Rattle.check_sequencing.proofs.declarations.Declarations.+effects.Goals as goal

pub push_inner-returns-in_ok-push_all-in-Call : goal.push_inner-returns-in_ok-push_all-in-Call
push_inner-returns-in_ok-push_all-in-Call t c =
    let e : node_view c.args.node.now ≡ Call c.in-Call.callee (exprs_view c.in-Call.args) c.in-Call.close = ap node_view c.in-Call.is ∙ view_of_call c.in-Call.callee c.in-Call.args c.in-Call.close in
    c.in_ok-push_all-in-Call.ensures
    ∙ ap (λ es. c.args.list.now.items ++ effects_all c.args.self.now.objects.now c.args.self.now.bodies (exprs_view es)) c.as_slice-in-Call.ensures
    ∙ sym (ap (λ n. c.args.list.now.items ++ inner c.args.self.now.objects.now c.args.self.now.bodies n) e)

pub push_inner-returns-in_ok-push_all-in-Index : goal.push_inner-returns-in_ok-push_all-in-Index
push_inner-returns-in_ok-push_all-in-Index t c =
    let e : node_view c.args.node.now ≡ Index c.in-Index.object (exprs_view c.in-Index.at) = ap node_view c.in-Index.is ∙ view_of_index c.in-Index.object c.in-Index.at in
    c.in_ok-push_all-in-Index.ensures
    ∙ ap (λ es. c.args.list.now.items ++ effects_all c.args.self.now.objects.now c.args.self.now.bodies (exprs_view es)) c.as_slice.ensures
    ∙ sym (ap (λ n. c.args.list.now.items ++ inner c.args.self.now.objects.now c.args.self.now.bodies n) e)
