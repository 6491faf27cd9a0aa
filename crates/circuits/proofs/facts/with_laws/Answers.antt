use Rattle.circuits.proofs.FactLaws.{facts_pushed}
use Rattle.circuits.proofs.facts.with_laws.Goals as goal
use Rattle.circuits.proofs.facts.with_laws.Goals.{in-Some+then-len-lt-MOST_OTHERS+then-is_about+in_ok-add_unknowns+in_ok-copy+in_ok-push, in-Some+else-len-lt-MOST_OTHERS, in_default}

pub loop-back-preserved : goal.loop-back-preserved
loop-back-preserved c = λ net words here n zeros facts. elim c.match-law_at.branch [
  | in-Some+then-len-lt-MOST_OTHERS+then-is_about+in_ok-add_unknowns+in_ok-copy+in_ok-push w ↦
      rw (w.all-is, w.in_ok-push.ensures.items) (facts_pushed c.loop-back.all.items (c.loop-back.invariant net words here n zeros facts) (rw w.in_ok-copy.ensures (w.in-Some.ensures net words here n zeros)))
  | in-Some+else-len-lt-MOST_OTHERS w ↦ rw w.all-is (c.loop-back.invariant net words here n zeros facts)
  | in_default w ↦ rw w.all-is (c.loop-back.invariant net words here n zeros facts)
]
