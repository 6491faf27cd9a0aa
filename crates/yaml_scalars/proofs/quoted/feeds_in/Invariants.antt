use Rattle.std.proofs.Common.{◌≡◌, ◌≤◌, ◌+◌, length, take}
use Rattle.yaml_lines.specs.Marks.{count_of}
use Rattle.yaml_scalars.specs.Quoted.{is_feed}
use Rattle.yaml_scalars.proofs.quoted.feeds_in.Given as goal

abbrev pub invariant-loop-more : goal.invariant-loop-more
invariant-loop-more l = record {
  within : l.more ≤ length l.left;
  sum : l.count + count_of is_feed (take l.more l.left) ≡ count_of is_feed (take l.len l.text);
  few : l.count + l.more ≤ l.len;
}

abbrev pub decreases-loop-more : goal.decreases-loop-more
decreases-loop-more l = l.more
