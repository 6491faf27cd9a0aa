use Rattle.std.proofs.Common.{◌≡◌, ◌≤◌, length, take}
use Rattle.yaml_scalars.specs.Tokens.{on_one_line}
use Rattle.yaml_scalars.proofs.tokens.is_on_one_line.Given as goal

abbrev pub invariant-loop-more : goal.invariant-loop-more
invariant-loop-more l = record {
  within : l.more ≤ length l.left;
  same : on_one_line (take l.more l.left) ≡ on_one_line (take l.count l.text);
}

abbrev pub decreases-loop-more : goal.decreases-loop-more
decreases-loop-more l = l.more
