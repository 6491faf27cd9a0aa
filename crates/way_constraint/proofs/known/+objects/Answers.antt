use Rattle.std.proofs.Common.{◌+◌, ◌&&◌, ◌∙◌, ap, sym, drop, Bool, List}
use Rattle.c_parser.specs.Formed.{every_part, every_argument}
use Rattle.c_parser.specs.Tree.{exps}
use Rattle.c_parser.specs.View.{exprs_view, node_view}
use Rattle.c_parser.specs.declared.tree.RawExpr.{RawExpr}
use Rattle.c_parser.proofs.Views.{view_of_index, view_of_call}
use Rattle.check_scope.specs.InScope.{all_of}
use Rattle.way_constraint.specs.Known.{stands_for_object}
use Rattle.way_constraint.proofs.ListLaws.{every-next}
use Rattle.way_constraint.proofs.known.+objects.Goals as goal

pub parts_name_objects-returns-in-Call : goal.parts_name_objects-returns-in-Call
parts_name_objects-returns-in-Call g c =
    let q = stands_for_object (all_of c.args.table.now) in
    let shape = ap node_view c.in-Call.is ∙ view_of_call c.in-Call.callee c.in-Call.word c.in-Call.args c.in-Call.close in
    c.all_name_objects-in-Call.ensures ∙ ap (λ (xs : List RawExpr). every_argument q (exps (exprs_view xs))) c.as_slice-in-Call.ensures ∙ sym (ap (every_part q) shape)

pub parts_name_objects-returns-in-Index : goal.parts_name_objects-returns-in-Index
parts_name_objects-returns-in-Index g c =
    let q = stands_for_object (all_of c.args.table.now) in
    let shape = ap node_view c.in-Index.is ∙ view_of_index c.in-Index.object c.in-Index.word c.in-Index.at in
    c.all_name_objects.ensures ∙ ap (λ (xs : List RawExpr). every_argument q (exps (exprs_view xs))) c.as_slice.ensures ∙ sym (ap (every_part q) shape)

pub all_name_objects-loop-e-preserved : goal.all_name_objects-loop-e-preserved
all_name_objects-loop-e-preserved g c =
    let q = stands_for_object (all_of c.args.table.now) in
    let rest = every_argument q (exps (exprs_view (drop (c.loop-e.e-index + 1) c.args.es.now))) in
    let next = every-next q c.args.es.now c.loop-e.e-index c.e-item.result c.names_objects.result c.loop-e-test.true c.e-item.is c.names_objects.ensures in
    sym (next ∙ ap (λ (b : Bool). b && rest) c.if-not-names_objects.false) ∙ c.loop-e.invariant
