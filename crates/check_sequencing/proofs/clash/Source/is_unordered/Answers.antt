use Rattle.std.proofs.Common.{◌≡◌, ap, sym, subst, ◌∙◌, inl, inr, ◌⊎◌}
use Rattle.c_core.specs.Tree.{Index, Call}
use Rattle.c_core.specs.TreeView.{exprs_view, node_view}
use Rattle.c_core.proofs.View.{view_of_index, view_of_call}
use Rattle.check_sequencing.specs.Deciding.{Tells}
use Rattle.check_sequencing.specs.Walking.{IsUnorderedBy, SomePairBy, arguments_by}
use Rattle.check_sequencing.proofs.PairLaws.{told_alone}
use Rattle.check_sequencing.proofs.clash.Source.is_unordered.Goals as goal

pub returns-in_ok-told-in-Call-clause-told : goal.returns-in_ok-told-in-Call-clause-told
returns-in_ok-told-in-Call-clause-told c =
    let s = c.args.self.now in
    let b = c.in_ok-told-in-Call.told in
    let e : node_view c.args.node.now ≡ Call c.in-Call.callee (exprs_view c.in-Call.args) c.in-Call.close = ap node_view c.in-Call.is ∙ view_of_call c.in-Call.callee c.in-Call.args c.in-Call.close in
    subst (λ n. Tells b (IsUnorderedBy s n)) (sym e)
    (told_alone b (SomePairBy s (arguments_by s (exprs_view c.in-Call.args)))
    (subst (λ es. Tells b (SomePairBy s (arguments_by s (exprs_view es)))) c.as_slice-in-Call.ensures c.in_ok-told-in-Call.ensures.told))

pub returns-in_ok-told-in-Index-clause-told : goal.returns-in_ok-told-in-Index-clause-told
returns-in_ok-told-in-Index-clause-told c =
    let s = c.args.self.now in
    let b = c.in_ok-told-in-Index.told in
    let e : node_view c.args.node.now ≡ Index c.in-Index.object (exprs_view c.in-Index.at) = ap node_view c.in-Index.is ∙ view_of_index c.in-Index.object c.in-Index.at in
    subst (λ n. Tells b (IsUnorderedBy s n)) (sym e)
    (told_alone b (SomePairBy s (arguments_by s (exprs_view c.in-Index.at)))
    (subst (λ es. Tells b (SomePairBy s (arguments_by s (exprs_view es)))) c.as_slice.ensures c.in_ok-told-in-Index.ensures.told))
