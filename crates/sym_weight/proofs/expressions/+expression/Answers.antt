use Rattle.std.proofs.Common.{◌≡◌, ℕ, List, ◌++◌, ap, sym, ◌∙◌, append_assoc}
use Rattle.c_core.specs.Tree.{Node, Call, Index, Program}
use Rattle.c_core.specs.declared.number.Spot.{Spot}
use Rattle.c_core.specs.declared.tree.Callee.{Callee}
use Rattle.c_core.specs.declared.tree.Expr.{Expr}
use Rattle.c_core.specs.TreeView.{exprs_view, node_view}
use Rattle.c_core.specs.View.{program_view}
use Rattle.c_core.proofs.View.{view_of_call, view_of_index}
use Rattle.sym_weight.specs.Sum.{arguments, called, indexes_of, operands}
use Rattle.sym_weight.specs.Tally.{plus, tallying}
use Rattle.sym_weight.proofs.expressions.+expression.Goals as goal

joined : (p : Program) (callee : Callee) (es slice : List Expr) (close : Spot) (n : Node) (old middle new : List ℕ) → n ≡ Call callee (exprs_view es) close → slice ≡ es
    → middle ≡ old ++ (arguments p tallying (exprs_view slice)).calls → new ≡ middle ++ (called p tallying callee (exprs_view slice)).calls → new ≡ old ++ (operands p tallying n).calls
joined p callee es slice close n old middle new e s a b =
    b ∙ ap (λ x. x ++ (called p tallying callee (exprs_view slice)).calls) a
    ∙ append_assoc old (arguments p tallying (exprs_view slice)).calls (called p tallying callee (exprs_view slice)).calls
    ∙ ap (λ es. old ++ ((arguments p tallying (exprs_view es)).calls ++ (called p tallying callee (exprs_view es)).calls)) s
    ∙ sym (ap (λ n. old ++ (operands p tallying n).calls) e)

pub operands-returns-in_ok-body-in-Call-clause-cost : goal.operands-returns-in_ok-body-in-Call-clause-cost
operands-returns-in_ok-body-in-Call-clause-cost t c =
    let p = program_view c.args.program.now in
    let e : node_view c.args.node.now ≡ Call c.in-Call.callee (exprs_view c.in-Call.args) c.in-Call.close = ap node_view c.in-Call.is ∙ view_of_call c.in-Call.callee c.in-Call.args c.in-Call.close in
    c.plus-in-Call.ensures
    ∙ ap (λ x. plus x c.in_ok-body-in-Call.body) (c.in_ok-values-in-Call.ensures.cost ∙ ap (λ es. (arguments p tallying (exprs_view es)).cost) c.as_slice-args.ensures)
    ∙ ap (λ x. plus (arguments p tallying (exprs_view c.in-Call.args)).cost x)
    (c.in_ok-body-in-Call.ensures.cost ∙ ap (λ es. (called p tallying c.in-Call.callee (exprs_view es)).cost) c.as_slice-args.ensures)
    ∙ sym (ap (λ n. (operands p tallying n).cost) e)

pub operands-returns-in_ok-body-in-Call-clause-calls : goal.operands-returns-in_ok-body-in-Call-clause-calls
operands-returns-in_ok-body-in-Call-clause-calls t c =
    let p = program_view c.args.program.now in
    let e : node_view c.args.node.now ≡ Call c.in-Call.callee (exprs_view c.in-Call.args) c.in-Call.close = ap node_view c.in-Call.is ∙ view_of_call c.in-Call.callee c.in-Call.args c.in-Call.close in
    joined p c.in-Call.callee c.in-Call.args c.as_slice-args.result.now c.in-Call.close (node_view c.args.node.now) c.args.calls.now.items _ _ e c.as_slice-args.ensures
    c.in_ok-values-in-Call.ensures.calls c.in_ok-body-in-Call.ensures.calls

pub operands-returns-in_ok-inner-in-Index-clause-cost : goal.operands-returns-in_ok-inner-in-Index-clause-cost
operands-returns-in_ok-inner-in-Index-clause-cost t c =
    let p = program_view c.args.program.now in
    let e : node_view c.args.node.now ≡ Index c.in-Index.object (exprs_view c.in-Index.at) = ap node_view c.in-Index.is ∙ view_of_index c.in-Index.object c.in-Index.at in
    c.in_ok-inner-in-Index.ensures.cost ∙ ap (λ es. (arguments p tallying (exprs_view es)).cost) c.as_slice.ensures ∙ sym (ap (λ n. (operands p tallying n).cost) e)

pub operands-returns-in_ok-inner-in-Index-clause-calls : goal.operands-returns-in_ok-inner-in-Index-clause-calls
operands-returns-in_ok-inner-in-Index-clause-calls t c =
    let p = program_view c.args.program.now in
    let e : node_view c.args.node.now ≡ Index c.in-Index.object (exprs_view c.in-Index.at) = ap node_view c.in-Index.is ∙ view_of_index c.in-Index.object c.in-Index.at in
    c.in_ok-inner-in-Index.ensures.calls ∙ ap (λ es. c.args.calls.now.items ++ (arguments p tallying (exprs_view es)).calls) c.as_slice.ensures ∙ sym (ap (λ n. c.args.calls.now.items ++ (operands p tallying n).calls) e)

pub indexes_of-returns-in_ok-inner-in-Index-clause-cost : goal.indexes_of-returns-in_ok-inner-in-Index-clause-cost
indexes_of-returns-in_ok-inner-in-Index-clause-cost t c =
    let p = program_view c.args.program.now in
    let e : node_view c.args.node.now ≡ Index c.in-Index.object (exprs_view c.in-Index.at) = ap node_view c.in-Index.is ∙ view_of_index c.in-Index.object c.in-Index.at in
    c.in_ok-inner-in-Index.ensures.cost ∙ ap (λ es. (arguments p tallying (exprs_view es)).cost) c.as_slice.ensures ∙ sym (ap (λ n. (indexes_of p tallying n).cost) e)

pub indexes_of-returns-in_ok-inner-in-Index-clause-calls : goal.indexes_of-returns-in_ok-inner-in-Index-clause-calls
indexes_of-returns-in_ok-inner-in-Index-clause-calls t c =
    let p = program_view c.args.program.now in
    let e : node_view c.args.node.now ≡ Index c.in-Index.object (exprs_view c.in-Index.at) = ap node_view c.in-Index.is ∙ view_of_index c.in-Index.object c.in-Index.at in
    c.in_ok-inner-in-Index.ensures.calls ∙ ap (λ es. c.args.calls.now.items ++ (arguments p tallying (exprs_view es)).calls) c.as_slice.ensures ∙ sym (ap (λ n. c.args.calls.now.items ++ (indexes_of p tallying n).calls) e)
