use Rattle.std.proofs.Common.{sym}
use Rattle.circuits.specs.Facts.{IsFact}
use Rattle.circuits.proofs.Unknowns.{bits_decide}
use Rattle.circuits.proofs.FactLaws.{facts_pushed, fact_of_test, zero_at}
use Rattle.circuits.proofs.facts.facts_of.Goals as goal
use Rattle.circuits.proofs.facts.facts_of.Goals.{in-Some+then-eq+then-zero-width+then-len-lt-MOST_TESTS+in_ok-fact+in_ok-push, in-Some+else-eq, in_default}

pub loop-bit-preserved : goal.loop-bit-preserved
loop-bit-preserved c = λ net words here zeros f. elim c.match-of_node.branch [
  | in-Some+then-eq+then-zero-width+then-len-lt-MOST_TESTS+in_ok-fact+in_ok-push w ↦
      let zero = w.index-zero.result.now in
      let fact : IsFact net words here c.args.width zero.polynomial =
      fact_of_test c.args.known.now c.loop-bit.bit-index c.args.width _ zero (rw w.index-zero.ensures (zero_at c.args.zeros.now.list.items w.in-Some.at _ zeros w.in-Some.ensures)) f c.loop-bit-test.true ((bits_decide _ _).0 (sym w.if-eq.ensures)) w.if-zero-width.true in
      rw (w.facts-is, w.in_ok-push.ensures.items) (facts_pushed c.loop-bit.facts.items (c.loop-bit.invariant net words here zeros f) (rw w.in_ok-fact.ensures fact))
  | in-Some+else-eq w ↦ rw w.facts-is (c.loop-bit.invariant net words here zeros f)
  | in_default w ↦ rw w.facts-is (c.loop-bit.invariant net words here zeros f)
]
