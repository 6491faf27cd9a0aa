use Rattle.circuits.proofs.BoundLaws.{range_both}
use Rattle.circuits.proofs.bounds.range_of.Goals as goal
use Rattle.circuits.proofs.bounds.range_of.Goals.{then-order-width+then-range+in_ok-first+in_ok-second, else-order-width}

pub loop-at-preserved : goal.loop-at-preserved
loop-at-preserved c = λ net words here known.
    let before = c.loop-at.invariant net words here known in
    elim c.if-order-width.branch [
      | then-order-width+then-range+in_ok-first+in_ok-second w ↦
          rw w.range-is (range_both w.both-range.ensures before (range_both w.both.ensures (w.in_ok-first.ensures net words here known) (w.in_ok-second.ensures net words here known)))
      | else-order-width w ↦ rw w.range-is before
    ]
