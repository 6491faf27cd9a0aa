use Rattle.std.proofs.Common.{◌≡◌, ◌||◌, ap, sym, ◌∙◌}
use Rattle.c_core.specs.Tree.{Call, Index}
use Rattle.c_core.specs.View.{exprs_view, node_view}
use Rattle.c_core.proofs.View.{view_of_call, view_of_index}
use Rattle.c_meaning.specs.Parts.{some_argument, some_part}
use Rattle.way_match.specs.Given.{node_names}
use Rattle.way_match.proofs.compared.+names.Goals as goal

pub part_has_names-returns-in-Call : goal.part_has_names-returns-in-Call
part_has_names-returns-in-Call t c =
    let e : node_view c.args.node.now ≡ Call c.in-Call.callee (exprs_view c.in-Call.args) c.in-Call.close = ap node_view c.in-Call.is ∙ view_of_call c.in-Call.callee c.in-Call.args c.in-Call.close in
    c.some_has_names.ensures
    ∙ ap (λ es. some_argument node_names (exprs_view es)) c.as_slice.ensures
    ∙ sym (ap (λ n. node_names n || some_part node_names n) e)

pub part_has_names-returns-in-Index : goal.part_has_names-returns-in-Index
part_has_names-returns-in-Index t c =
    let e : node_view c.args.node.now ≡ Index c.in-Index.object (exprs_view c.in-Index.at) = ap node_view c.in-Index.is ∙ view_of_index c.in-Index.object c.in-Index.at in
    sym (ap (λ n. node_names n || some_part node_names n) e)
