use Rattle.std.proofs.Common.{◌≡◌, ◌≤◌, length, take}
use Rattle.wv_yaml.specs.Block.{all_spaces}
use Rattle.wv_yaml.proofs.block.are_spaces.Given as goal

abbrev pub invariant-loop-more : goal.invariant-loop-more
invariant-loop-more l = record {
  within : l.more ≤ length l.left;
  same : all_spaces (take l.more l.left) ≡ all_spaces (take l.count l.text);
}

abbrev pub decreases-loop-more : goal.decreases-loop-more
decreases-loop-more l = l.more
