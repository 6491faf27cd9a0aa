use Rattle.std.proofs.Common.{rules, ◌≡◌, ◌∙◌, true, false, is_none, sym, ap, subst}
use Rattle.wv_schema.specs.Shapes.{entries_fault}
use Rattle.wv_schema.specs.Rules.{MeetsSchema}
use Rattle.wv_schema.proofs.Entries.{no_list, entries_stop, unfit_entries, no_fault, all_met, witness_is}
use Rattle.wv_schema.proofs.MetWitness.{witness_meets, some_entry}
use Rattle.wv_schema.proofs.schema.witness_of.Goals as goal

pub returns-in_err-entries-in-Some-clause-answer : goal.returns-in_err-entries-in-Some-clause-answer
returns-in_err-entries-in-Some-clause-answer c =
    let k = entries_stop c.in_err-entries-in-Some.field-0.0 c.args.tree.now _ c.in-Some.ensures c.in_err-entries-in-Some.ensures in
    search (rules, k)

pub returns-then-not-are_fit-clause-answer : goal.returns-then-not-are_fit-clause-answer
returns-then-not-are_fit-clause-answer c =
    unfit_entries c.args.tree.now _ _ c.in-Some.ensures c.in_ok-entries-in-Some.ensures.0 (c.as_slice.ensures ∙ c.in_ok-entries-in-Some.ensures.1) c.if-not-are_fit.ensures

pub returns-in-None-clause-answer : goal.returns-in-None-clause-answer
returns-in-None-clause-answer c = no_list _ c.args.tree.now c.in-None.ensures c.wrong_kind.ensures

pub returns-else-not-are_fit-clause-answer : goal.returns-else-not-are_fit-clause-answer
returns-else-not-are_fit-clause-answer c = (
  all_met c.args.tree.now _ _ c.in-Some.ensures c.in_ok-entries-in-Some.ensures.0 (c.as_slice.ensures ∙ c.in_ok-entries-in-Some.ensures.1) c.if-not-are_fit.ensures,
  witness_is c.args.tree.now _ _ c.in-Some.ensures c.in_ok-entries-in-Some.ensures.1,
)

pub returns-else-not-are_fit-clause-meets : goal.returns-else-not-are_fit-clause-meets
returns-else-not-are_fit-clause-meets c =
    let d = all_met c.args.tree.now _ _ c.in-Some.ensures c.in_ok-entries-in-Some.ensures.0 (c.as_slice.ensures ∙ c.in_ok-entries-in-Some.ensures.1) c.if-not-are_fit.ensures in
    subst MeetsSchema (sym (witness_is c.args.tree.now _ _ c.in-Some.ensures c.in_ok-entries-in-Some.ensures.1)) (witness_meets c.args.tree.now d)

pub returns-else-not-are_fit-clause-some : goal.returns-else-not-are_fit-clause-some
returns-else-not-are_fit-clause-some c = some_entry _ (ap entries_fault (sym c.as_slice.ensures) ∙ no_fault _ c.if-not-are_fit.ensures)
