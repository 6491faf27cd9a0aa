use Rattle.circuits.proofs.BoundLaws.{value_of_greater_range, value_of_lesser_range}
use Rattle.circuits.proofs.bounds.value_by_ranges.Goals as goal

pub returns-then-lesser-greater : goal.returns-then-lesser-greater
returns-then-lesser-greater c = λ net words here known.
    value_of_lesser_range c.in_ok-lesser.lesser c.in_ok-greater.greater (c.in_ok-lesser.ensures net words here known) (c.in_ok-greater.ensures net words here known) c.if-lesser-greater.true

pub returns-then-greater-lesser : goal.returns-then-greater-lesser
returns-then-greater-lesser c = λ net words here known.
    value_of_greater_range c.in_ok-lesser.lesser c.in_ok-greater.greater (c.in_ok-lesser.ensures net words here known) (c.in_ok-greater.ensures net words here known) c.if-greater-lesser.true
