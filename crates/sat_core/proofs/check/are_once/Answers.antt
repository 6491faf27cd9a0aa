use Rattle.std.proofs.Common.{◌≡◌, inl, inr, sym, ◌∙◌, ap, subst, refl, arith, Some, List}
use Rattle.std.specs.Prelude.{slice_get}
use Rattle.std.proofs.lemmas.Bool.{cases_lt}
use Rattle.std.proofs.lemmas.Option.{same_Some, slice_get_read, slice_get_within}
use Rattle.clauses.specs.declared.log.Chain.{Chain}
use Rattle.clauses.specs.declared.log.Resolve.{Resolve}
use Rattle.sat_core.specs.Derived.{AreOnce}
use Rattle.sat_newness.proofs.Lists.{at_contains}
use Rattle.sat_core.proofs.check.are_once.Goals as goal

pub loop-chain-preserved : goal.loop-chain-preserved
loop-chain-preserved c = λ k d lt i. elim (cases_lt k c.loop-chain.chain-index) as (λ _. AreOnce d.steps) [
  | inl l ↦ c.loop-chain.invariant k d l i
  | inr g ↦
      let n = c.loop-chain.chain-index in
      let same : n ≡ k = omega arith in
      let at : slice_get c.args.chains.now n ≡ Some c.chain-item.result = slice_get_read c.args.chains.now _ n c.chain-item.result refl c.loop-chain-test.true c.chain-item.is in
      let e : c.chain-item.result ≡ d = same_Some c.chain-item.result d (sym at ∙ ap (slice_get c.args.chains.now) same ∙ i) in
      let once : AreOnce c.chain-item.result.steps = subst (λ (l : List Resolve). AreOnce l) c.as_slice.ensures (c.if-not-is_once.ensures refl) in
      subst (λ (x : Chain). AreOnce x.steps) e once
]

pub returns : goal.returns
returns c = λ _ d i.
    let a = at_contains c.args.chains.now d i in
    c.loop-chain.invariant a.0 d (omega (arith, slice_get_within c.args.chains.now a.0 d a.1, c.loop-chain-test.false)) a.1
