use Rattle.std.proofs.Common.{refl}
use Rattle.circuits.proofs.FactLaws.{truth_is_0, truth_is_1}
use Rattle.circuits.proofs.truths.truth_fact.Goals as goal
use Rattle.circuits.proofs.truths.truth_fact.Goals.{else-value-via-then-value+in_ok-add_term+else-not-branch, else-value-via-else-value}

pub returns : goal.returns
returns c = elim c.else-value.branch [
  | else-value-via-then-value+in_ok-add_term+else-not-branch w ↦
      rw (w.fact-is, w.if-value.true) (truth_is_1 c.requires refl c.in_ok-fact.ensures.value c.in_ok-fact.ensures.within (w.in_ok-add_term.ensures.added w.if-not-branch.false))
  | else-value-via-else-value w ↦ rw (w.fact-is, w.if-value.false) (truth_is_0 c.in_ok-fact.ensures.value c.in_ok-fact.ensures.within)
]
