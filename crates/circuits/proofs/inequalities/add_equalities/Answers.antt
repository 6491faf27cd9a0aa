use Rattle.std.proofs.Common.{arith}
use Rattle.circuits.specs.Inequalities.{Follows}
use Rattle.circuits.proofs.FactLaws.{at_some}
use Rattle.circuits.proofs.OrderLaws.{equality_pushed, known_at}
use Rattle.circuits.proofs.inequalities.add_equalities.Goals as goal
use Rattle.circuits.proofs.inequalities.add_equalities.Goals.{then-other-one+then-len-lt-MOST_EQUALITIES+in_ok-polynomial+in-Some+in_ok-push, then-other-one+then-len-lt-MOST_EQUALITIES+in_ok-polynomial+in_default, else-other-one}

pub loop-later-preserved : goal.loop-later-preserved
loop-later-preserved c = λ net words here all old. elim c.if-other-one.branch [
  | then-other-one+then-len-lt-MOST_EQUALITIES+in_ok-polynomial+in-Some+in_ok-push w ↦
      let one = known_at c.args.known.now c.args.at c.index-known-at.result c.index-known-at.is c.requires.inside all in
      let other = known_at c.args.known.now c.loop-later.later c.index-known-later.result c.index-known-later.is (omega (arith, c.loop-later-test.true)) all in
      let follows = at_some (λ p. Follows c.index-known-at.result c.index-known-later.result p) _ _ w.in-Some.is w.in_ok-polynomial.ensures in
      rw (w.found-is, w.in_ok-push.ensures.items) (equality_pushed c.loop-later.found.items _ (c.loop-later.invariant net words here all old) (follows net words here one other))
  | then-other-one+then-len-lt-MOST_EQUALITIES+in_ok-polynomial+in_default w ↦ rw w.found-is (c.loop-later.invariant net words here all old)
  | else-other-one w ↦ rw w.found-is (c.loop-later.invariant net words here all old)
]
