use Rattle.std.proofs.Common.{◌≡◌, ◌+◌, ◌++◌, ◌∷◌, [], ap, sym, ◌∙◌, drop}
use Rattle.c_core.specs.Places.{place, places_in, places_in_arguments, places_in_node}
use Rattle.c_core.specs.Tree.{Call, Index}
use Rattle.c_core.specs.View.{expr_view, exprs_view, node_view}
use Rattle.c_core.specs.declared.place.PlaceKind.TheVariants.{CallEnd}
use Rattle.c_core.proofs.ArmLaws.{item_first}
use Rattle.c_core.proofs.View.{view_of_call, view_of_index}
use Rattle.way_places.specs.Seeking.{best_of}
use Rattle.way_places.proofs.SeekingLaws.{best_of_both}
use Rattle.way_places.proofs.place.Location.+expression.Goals as goal

pub arguments-loop-e-preserved : goal.arguments-loop-e-preserved
arguments-loop-e-preserved t c =
    ap (λ b. best_of c.args.self.now.kind c.args.self.now.line c.args.self.now.column b (places_in_arguments (exprs_view (drop (c.loop-e.e-index + 1) c.args.es.now)))) c.expression-nearest.ensures
    ∙ sym (best_of_both c.args.self.now.kind c.args.self.now.line c.args.self.now.column c.loop-e.nearest (places_in (expr_view c.e-item.result)) (places_in_arguments (exprs_view (drop (c.loop-e.e-index + 1) c.args.es.now))))
    ∙ sym (ap (λ xs. best_of c.args.self.now.kind c.args.self.now.line c.args.self.now.column c.loop-e.nearest (places_in_arguments (exprs_view xs))) (item_first c.args.es.now c.loop-e.e-index c.e-item.result c.loop-e-test.true c.e-item.is))
    ∙ c.loop-e.invariant

pub node-returns-in-Call : goal.node-returns-in-Call
node-returns-in-Call t c =
    let e : node_view c.args.node.now ≡ Call c.in-Call.callee (exprs_view c.in-Call.args) c.in-Call.close = ap node_view c.in-Call.is ∙ view_of_call c.in-Call.callee c.in-Call.args c.in-Call.close in
    c.call.ensures
    ∙ ap (λ es. best_of c.args.self.now.kind c.args.self.now.line c.args.self.now.column c.args.best (places_in_arguments (exprs_view es) ++ place CallEnd c.in-Call.close ∷ [])) c.as_slice-in-Call.ensures
    ∙ sym (ap (λ n. best_of c.args.self.now.kind c.args.self.now.line c.args.self.now.column c.args.best (places_in_node n)) e)

pub node-returns-in-Index : goal.node-returns-in-Index
node-returns-in-Index t c =
    let e : node_view c.args.node.now ≡ Index c.in-Index.object (exprs_view c.in-Index.at) = ap node_view c.in-Index.is ∙ view_of_index c.in-Index.object c.in-Index.at in
    c.arguments.ensures
    ∙ ap (λ es. best_of c.args.self.now.kind c.args.self.now.line c.args.self.now.column c.args.best (places_in_arguments (exprs_view es))) c.as_slice.ensures
    ∙ sym (ap (λ n. best_of c.args.self.now.kind c.args.self.now.line c.args.self.now.column c.args.best (places_in_node n)) e)
