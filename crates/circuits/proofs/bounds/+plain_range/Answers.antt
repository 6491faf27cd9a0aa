use Rattle.circuits.proofs.BoundLaws.{range_above, range_below, range_both}
use Rattle.circuits.proofs.OrderLaws.{known_at}
use Rattle.circuits.proofs.bounds.+plain_range.Goals as goal
use Rattle.circuits.proofs.bounds.+plain_range.Goals.{then-order-width+in_ok-is_more_by+then-branch+in_ok-other, then-order-width+in_ok-is_more_by+else-branch+in_ok-is_more_by-2+then-branch-2+in_ok-other-2, then-order-width+in_ok-is_more_by+else-branch+in_ok-is_more_by-2+else-branch-2, else-order-width}

pub loop-at-preserved : goal.loop-at-preserved
loop-at-preserved t c = λ net words here known.
    let k = c.index-known-at.result in
    let own = known_at c.args.known.now c.loop-at.at k c.index-known-at.is c.loop-at-test.true known in
    let before = c.loop-at.invariant net words here known in
    elim c.if-order-width.branch [
      | then-order-width+in_ok-is_more_by+then-branch+in_ok-other w ↦
          rw w.range-is (range_both w.both-range.ensures before
          (range_below k w.if-order-width.true own (w.in_ok-is_more_by.ensures w.if-branch.true) (w.in_ok-other.ensures net words here known) w.below.ensures))
      | then-order-width+in_ok-is_more_by+else-branch+in_ok-is_more_by-2+then-branch-2+in_ok-other-2 w ↦
          rw w.range-is (range_both w.both-range-then-branch-2.ensures before
          (range_above k w.if-order-width.true own (w.in_ok-is_more_by-2.ensures w.if-branch-2.true) (w.in_ok-other-2.ensures net words here known) w.above.ensures))
      | then-order-width+in_ok-is_more_by+else-branch+in_ok-is_more_by-2+else-branch-2 w ↦ rw w.range-is before
      | else-order-width w ↦ rw w.range-is before
    ]
