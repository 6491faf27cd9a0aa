use Rattle.std.proofs.Common.{◌≡◌, ◌≤◌, ◌+◌, length}
use Rattle.c_parser.specs.Items.{outside, closed_name}
use Rattle.c_parser.proofs.closed.closed_name.Given as goal

abbrev pub invariant-loop-more : goal.invariant-loop-more
invariant-loop-more l = record {
  left : l.more ≡ length l.rest;
  low : l.depth + l.more ≤ length l.front;
  same : closed_name (outside l.depth l.rest) ≡ closed_name (outside 0 l.front);
}

abbrev pub decreases-loop-more : goal.decreases-loop-more
decreases-loop-more l = l.more
