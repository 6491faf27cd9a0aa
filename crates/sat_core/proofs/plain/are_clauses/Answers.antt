use Rattle.std.proofs.Common.{◌≡◌, inl, inr, sym, ◌∙◌, ap, subst, refl, arith, length, Some, List, ℤ}
use Rattle.std.specs.Prelude.{slice_get}
use Rattle.std.proofs.lemmas.Bool.{cases_lt}
use Rattle.std.proofs.lemmas.Option.{same_Some, slice_get_read, slice_get_within}
use Rattle.clauses.specs.Clause.{IsClause}
use Rattle.sat_newness.proofs.Lists.{at_contains}
use Rattle.sat_core.proofs.plain.are_clauses.Goals as goal

pub loop-clause-preserved : goal.loop-clause-preserved
loop-clause-preserved c = λ k d lt i. elim (cases_lt k c.loop-clause.clause-index) as (λ _. IsClause d) [
  | inl l ↦ c.loop-clause.invariant k d l i
  | inr g ↦
      let n = c.loop-clause.clause-index in
      let same : n ≡ k = omega arith in
      let items : c.as_slice-clause-items.result.now ≡ c.args.given.now = c.as_slice-clause-items.ensures in
      let at : slice_get c.as_slice-clause-items.result.now n ≡ Some c.clause-item.result = slice_get_read c.as_slice-clause-items.result.now _ n c.clause-item.result refl c.loop-clause-test.true c.clause-item.is in
      let e : c.clause-item.result ≡ d = same_Some c.clause-item.result d (sym at ∙ ap (λ l. slice_get l n) items ∙ ap (slice_get c.args.given.now) same ∙ i) in
      subst (λ (l : List ℤ). IsClause l) e c.numbers.ensures.fine
]

pub returns : goal.returns
returns c = λ d i.
    let a = at_contains c.args.given.now d i in
    let items : c.as_slice-clause-items.result.now ≡ c.args.given.now = c.as_slice-clause-items.ensures in
    c.loop-clause.invariant a.0 d (omega (arith, slice_get_within c.args.given.now a.0 d a.1, ap length items, c.loop-clause-test.false)) a.1
