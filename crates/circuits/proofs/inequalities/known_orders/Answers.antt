use Rattle.std.proofs.Common.{◌≤◌}
use Rattle.circuits.proofs.FactLaws.{at_some}
use Rattle.circuits.proofs.OrderLaws.{follows_at, known_pushed, narrow_pushed}
use Rattle.circuits.proofs.inequalities.known_orders.Goals as goal
use Rattle.circuits.proofs.inequalities.known_orders.Goals.{then-len-lt-MOST_KNOWN+in_ok-order+in-Some+in_ok-push, then-len-lt-MOST_KNOWN+in_ok-order+in_default, else-len-lt-MOST_KNOWN}

pub loop-bit-preserved : goal.loop-bit-preserved
loop-bit-preserved c = elim c.if-len-lt-MOST_KNOWN.branch [
  | then-len-lt-MOST_KNOWN+in_ok-order+in-Some+in_ok-push w ↦
      let narrow = at_some (λ k. k.width ≤ 64) _ _ w.in-Some.is w.in_ok-order.ensures.narrow in
      let known = at_some _ _ _ w.in-Some.is w.in_ok-order.ensures.known in
      rw (w.found-is, w.in_ok-push.ensures.items) (
        narrow_pushed c.loop-bit.found.items _ c.loop-bit.invariant.0 narrow,
        (λ here f.
            known_pushed c.loop-bit.found.items _ (c.loop-bit.invariant.1 here f) (known here f (follows_at c.args.known.now c.loop-bit.bit-index _ f c.loop-bit-test.true))),
      )
  | then-len-lt-MOST_KNOWN+in_ok-order+in_default w ↦ rw w.found-is c.loop-bit.invariant
  | else-len-lt-MOST_KNOWN w ↦ rw w.found-is c.loop-bit.invariant
]
