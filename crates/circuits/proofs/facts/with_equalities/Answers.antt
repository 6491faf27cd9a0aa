use Rattle.std.proofs.Common.{arith, subst, sym}
use Rattle.std.proofs.lemmas.List.Elements.{All-get_or}
use Rattle.circuits.specs.declared.inequalities.Equality.{Equality}
use Rattle.circuits.specs.Facts.{IsFact}
use Rattle.circuits.proofs.FactLaws.{facts_pushed}
use Rattle.circuits.proofs.facts.with_equalities.Goals as goal
use Rattle.circuits.proofs.facts.with_equalities.Goals.{then-equality-width+then-len-lt-MOST_OTHERS+in_ok-copy+in_ok-push, else-equality-width}

pub loop-at-preserved : goal.loop-at-preserved
loop-at-preserved c = λ net words here equal facts. elim c.if-equality-width.branch [
  | then-equality-width+then-len-lt-MOST_OTHERS+in_ok-copy+in_ok-push w ↦
      let e = c.index-equalities-at.result in
      let one : IsFact net words here e.width e.polynomial =
      subst (λ (x : Equality). IsFact net words here x.width x.polynomial) (sym c.index-equalities-at.is)
      (All-get_or (λ (x : Equality). IsFact net words here x.width x.polynomial) c.args.equalities.now c.loop-at.at e (omega (arith, c.loop-at-test.true)) equal) in
      let fact = subst (λ k. IsFact net words here k e.polynomial) w.if-equality-width.true one in
      rw (w.all-is, w.in_ok-push.ensures.items) (facts_pushed c.loop-at.all.items (c.loop-at.invariant net words here equal facts) (rw w.in_ok-copy.ensures fact))
  | else-equality-width w ↦ rw w.all-is (c.loop-at.invariant net words here equal facts)
]
