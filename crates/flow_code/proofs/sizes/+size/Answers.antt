use Rattle.std.proofs.Common.{◌≡◌, ◌+◌, ap, ap₂, sym, subst, ◌∙◌, arith, IfOk}
use Rattle.c_core.specs.Tree.{Index, Call}
use Rattle.c_core.specs.View.{exprs_view, node_view}
use Rattle.c_core.proofs.View.{view_of_index, view_of_call}
use Rattle.flow_code.specs.Sizes.{size_of_node, size_of_place, size_of_element}
use Rattle.flow_code.proofs.Indexes.{as_two, size_of_many}
use Rattle.flow_code.proofs.Weights.{weight_in, argument_part}
use Rattle.flow_code.proofs.sizes.+size.Goals as goal

pub size-size_of_element-requires : goal.size-size_of_element-requires
size-size_of_element-requires t c =
    let e : node_view c.args.e.now.node ≡ Index c.in-Index.object (exprs_view c.as_slice.result.now) =
    ap node_view c.in-Index.is ∙ view_of_index c.in-Index.object c.in-Index.at ∙ ap (λ es. Index c.in-Index.object (exprs_view es)) (sym c.as_slice.ensures) in
    (omega (arith, c.decreases, ap weight_in e), tt)

pub size-returns-in-Index : goal.size-returns-in-Index
size-returns-in-Index t c =
    let e : node_view c.args.e.now.node ≡ Index c.in-Index.object (exprs_view c.as_slice.result.now) =
    ap node_view c.in-Index.is ∙ view_of_index c.in-Index.object c.in-Index.at ∙ ap (λ es. Index c.in-Index.object (exprs_view es)) (sym c.as_slice.ensures) in
    subst (λ m. IfOk c.size_of_element.result (λ n. n ≡ size_of_node c.args.e.now.ty m)) (sym e) c.size_of_element.ensures

pub size_of_aim-size_of_element-requires : goal.size_of_aim-size_of_element-requires
size_of_aim-size_of_element-requires t c =
    let e : node_view c.args.target.now.node ≡ Index c.in-Index.object (exprs_view c.as_slice.result.now) =
    ap node_view c.in-Index.is ∙ view_of_index c.in-Index.object c.in-Index.at ∙ ap (λ es. Index c.in-Index.object (exprs_view es)) (sym c.as_slice.ensures) in
    (omega (arith, c.decreases, ap weight_in e), tt)

pub size_of_aim-returns-in-Index : goal.size_of_aim-returns-in-Index
size_of_aim-returns-in-Index t c =
    let e : node_view c.args.target.now.node ≡ Index c.in-Index.object (exprs_view c.as_slice.result.now) =
    ap node_view c.in-Index.is ∙ view_of_index c.in-Index.object c.in-Index.at ∙ ap (λ es. Index c.in-Index.object (exprs_view es)) (sym c.as_slice.ensures) in
    subst (λ m. IfOk c.size_of_element.result (λ n. n ≡ size_of_place m)) (sym e) c.size_of_element.ensures

pub size_of_element-returns-in_ok-sum-in-len2 : goal.size_of_element-returns-in_ok-sum-in-len2
size_of_element-returns-in_ok-sum-in-len2 t c =
    c.in_ok-sum-in-len2.ensures ∙ ap (λ n. n + 1) c.in_ok-both-in-len2.ensures
    ∙ sym (ap size_of_element (as_two c.args.indexes.now c.row-item.result c.column-item.result c.in-len2.len_at_least c.in-len2.len_below c.row-item.is c.column-item.is))

pub size_of_element-returns-in_ok-sum-in_default : goal.size_of_element-returns-in_ok-sum-in_default
size_of_element-returns-in_ok-sum-in_default t c =
    c.in_ok-sum-in_default.ensures ∙ ap (λ n. n + 1) c.in_ok-all-in_default.ensures ∙ sym (size_of_many c.args.indexes.now c.in_default.len_at_least)

pub size-size_of_all-requires : goal.size-size_of_all-requires
size-size_of_all-requires t c =
    let e : node_view c.args.e.now.node ≡ Call c.in-Call.callee (exprs_view c.as_slice-in-Call.result.now) c.in-Call.close =
    ap node_view c.in-Call.is ∙ view_of_call c.in-Call.callee c.in-Call.args c.in-Call.close ∙ ap (λ es. Call c.in-Call.callee (exprs_view es) c.in-Call.close) (sym c.as_slice-in-Call.ensures) in
    (omega (arith, c.decreases, ap weight_in e), tt)

pub size-returns-in_ok-sum-in-Call : goal.size-returns-in_ok-sum-in-Call
size-returns-in_ok-sum-in-Call t c =
    let e : node_view c.args.e.now.node ≡ Call c.in-Call.callee (exprs_view c.as_slice-in-Call.result.now) c.in-Call.close =
    ap node_view c.in-Call.is ∙ view_of_call c.in-Call.callee c.in-Call.args c.in-Call.close ∙ ap (λ es. Call c.in-Call.callee (exprs_view es) c.in-Call.close) (sym c.as_slice-in-Call.ensures) in
    c.in_ok-sum-in-Call.ensures ∙ ap₂ ◌+◌ c.size_of_callee.ensures c.in_ok-values-in-Call.ensures ∙ sym (ap (size_of_node c.args.e.now.ty) e)

pub size_of_all-size-requires : goal.size_of_all-size-requires
size_of_all-size-requires t c = (omega (arith, c.decreases, argument_part c.args.args.now c.loop-e.e-index c.e-item.result c.loop-e-test.true c.e-item.is), tt)
