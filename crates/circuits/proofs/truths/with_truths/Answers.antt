use Rattle.circuits.specs.Facts.{IsTruthFact}
use Rattle.circuits.proofs.FactLaws.{at_some, facts_pushed, fact_of_truth}
use Rattle.circuits.proofs.truths.with_truths.Goals as goal
use Rattle.circuits.proofs.truths.with_truths.Goals.{in-Some+in-Some-value_by_parts+in_ok-fact+in-Some-2+in_ok-push, in-Some+in-Some-value_by_parts+in_ok-fact+in_default-2, in-Some+in_default-value_by_parts, in_default}

pub loop-at-preserved : goal.loop-at-preserved
loop-at-preserved c = λ here f facts. elim c.match-digit.branch [
  | in-Some+in-Some-value_by_parts+in_ok-fact+in-Some-2+in_ok-push w ↦
      rw (w.all-is, w.in_ok-push.ensures.items)
      (facts_pushed c.loop-at.all.items (c.loop-at.invariant here f facts) (fact_of_truth (at_some (λ p. IsTruthFact c.args.width c.index-truth.result.now w.in-Some-value_by_parts.value p) _ _ w.in-Some-2.is w.in_ok-fact.ensures) w.in-Some.ensures.is (w.in-Some-value_by_parts.ensures here f)))
  | in-Some+in-Some-value_by_parts+in_ok-fact+in_default-2 w ↦ rw w.all-is (c.loop-at.invariant here f facts)
  | in-Some+in_default-value_by_parts w ↦ rw w.all-is (c.loop-at.invariant here f facts)
  | in_default w ↦ rw w.all-is (c.loop-at.invariant here f facts)
]
