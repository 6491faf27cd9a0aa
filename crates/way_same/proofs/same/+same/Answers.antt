use Rattle.std.proofs.Common.{◌≡◌, ◌<◌, length, ap, sym, ◌∙◌, arith}
use Rattle.c_core.specs.Tree.{Index}
use Rattle.c_core.specs.View.{expr_view, exprs_view, node_view}
use Rattle.c_core.proofs.View.{view_of_index}
use Rattle.way_same.proofs.SameLaws.{same_more}
use Rattle.way_same.proofs.same.+same.Goals as goal

pub same_exprs-loop-i-preserved : goal.same_exprs-loop-i-preserved
same_exprs-loop-i-preserved t c =
    let within : c.loop-i.i < length c.args.a.now = omega arith in
    let there : c.loop-i.i < length c.args.b.now = omega (arith, within, c.if-a-b.false) in
    same_more c.args.a.now c.args.b.now c.loop-i.i c.index-a-i.result c.index-b-i.result within there c.loop-i.invariant
    (sym (ap expr_view c.index-a-i.is) ∙ c.is_same.ensures c.if-not-is_same.false ∙ ap expr_view c.index-b-i.is)

pub same_node-returns-then-object-other : goal.same_node-returns-then-object-other
same_node-returns-then-object-other t c = λ e.
    let i = c.in-Index-Index in
    let left : node_view c.args.a.now ≡ Index i.object (exprs_view i.at) = ap node_view i.is-0 ∙ view_of_index i.object i.at in
    let right : node_view c.args.b.now ≡ Index i.other (exprs_view i.there) = ap node_view i.is-1 ∙ view_of_index i.other i.there in
    let same : exprs_view i.at ≡ exprs_view i.there =
    sym (ap exprs_view c.as_slice.ensures) ∙ c.same_exprs.ensures e ∙ ap exprs_view c.as_slice-then-object-other.ensures in
    left ∙ ap (λ o. Index o (exprs_view i.at)) c.if-object-other.true ∙ ap (λ es. Index i.other es) same ∙ sym right
