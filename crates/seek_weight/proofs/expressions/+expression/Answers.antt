use Rattle.std.proofs.Common.{◌≡◌, ap, sym, ◌∙◌}
use Rattle.c_core.specs.Tree.{Call, Index}
use Rattle.c_core.specs.View.{exprs_view, node_view}
use Rattle.c_core.proofs.View.{view_of_call, view_of_index}
use Rattle.sym_weight.specs.Tally.{capped}
use Rattle.seek_weight.specs.SeekWeight.{arguments, called, indexes_of, operands}
use Rattle.seek_weight.specs.Tolls.{ACall, toll}
use Rattle.seek_weight.specs.inside.Weighing.{in_walk, program_in, segments_in}
use Rattle.seek_weight.proofs.Sums.{sum_of_three}
use Rattle.seek_weight.proofs.expressions.+expression.Goals as goal

pub indexes_of-returns-in-Index : goal.indexes_of-returns-in-Index
indexes_of-returns-in-Index t c =
    let w = c.args.walk in
    let e : node_view c.args.node.now ≡ Index c.in-Index.object (exprs_view c.in-Index.at) = ap node_view c.in-Index.is ∙ view_of_index c.in-Index.object c.in-Index.at in
    c.arguments.ensures ∙ ap (λ es. capped (in_walk arguments w (exprs_view es))) c.as_slice.ensures ∙ sym (ap (λ n. capped (in_walk indexes_of w n)) e)

pub operands-returns-in-Index : goal.operands-returns-in-Index
operands-returns-in-Index t c =
    let w = c.args.walk in
    let e : node_view c.args.node.now ≡ Index c.in-Index.object (exprs_view c.in-Index.at) = ap node_view c.in-Index.is ∙ view_of_index c.in-Index.object c.in-Index.at in
    c.arguments.ensures ∙ ap (λ es. capped (in_walk arguments w (exprs_view es))) c.as_slice.ensures ∙ sym (ap (λ n. capped (in_walk operands w n)) e)

pub operands-returns-in-Call : goal.operands-returns-in-Call
operands-returns-in-Call t c =
    let w = c.args.walk in
    let callee = c.in-Call.callee in
    let es = exprs_view c.in-Call.args in
    let e : node_view c.args.node.now ≡ Call callee es c.in-Call.close = ap node_view c.in-Call.is ∙ view_of_call callee c.in-Call.args c.in-Call.close in
    sum_of_three c.call_toll.result c.arguments-values.result c.called-body.result
    (toll (program_in w) (segments_in w) ACall c.in-Call.close) (in_walk arguments w es) (in_walk called w callee es) c.plus-in-Call.result c.plus-in-Call-2.result
    c.call_toll.ensures
    (c.arguments-values.ensures ∙ ap (λ xs. capped (in_walk arguments w (exprs_view xs))) c.as_slice-args.ensures)
    (c.called-body.ensures ∙ ap (λ xs. capped (in_walk called w callee (exprs_view xs))) c.as_slice-args.ensures)
    c.plus-in-Call.ensures c.plus-in-Call-2.ensures
    ∙ sym (ap (λ n. capped (in_walk operands w n)) e)
