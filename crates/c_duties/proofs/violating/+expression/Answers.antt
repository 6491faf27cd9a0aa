use Rattle.std.proofs.Common.{◌≡◌, ap, sym, ◌∙◌}
use Rattle.c_core.specs.Tree.{Index, Call}
use Rattle.c_core.specs.TreeView.{exprs_view, node_view}
use Rattle.c_core.proofs.View.{view_of_index, view_of_call}
use Rattle.c_meaning.specs.Duties.{may_violate}
use Rattle.c_meaning.specs.Parts.{some_argument, some_part}
use Rattle.c_duties.proofs.violating.+expression.Goals as goal

pub part_violates-returns-in-Call : goal.part_violates-returns-in-Call
part_violates-returns-in-Call t c =
    let e : node_view c.args.node.now ≡ Call c.in-Call.callee (exprs_view c.in-Call.args) c.in-Call.close = ap node_view c.in-Call.is ∙ view_of_call c.in-Call.callee c.in-Call.args c.in-Call.close in
    c.argument_violates-in-Call.ensures
    ∙ ap (λ es. some_argument (may_violate c.args.property c.args.model) (exprs_view es)) c.as_slice-in-Call.ensures
    ∙ sym (ap (some_part (may_violate c.args.property c.args.model)) e)

pub part_violates-returns-in-Index : goal.part_violates-returns-in-Index
part_violates-returns-in-Index t c =
    let e : node_view c.args.node.now ≡ Index c.in-Index.object (exprs_view c.in-Index.at) = ap node_view c.in-Index.is ∙ view_of_index c.in-Index.object c.in-Index.at in
    c.argument_violates.ensures
    ∙ ap (λ es. some_argument (may_violate c.args.property c.args.model) (exprs_view es)) c.as_slice.ensures
    ∙ sym (ap (some_part (may_violate c.args.property c.args.model)) e)
