use Rattle.std.proofs.Common.{length, ◌≡◌, ◌≤◌, ◌+◌, drop}
use Rattle.yaml_scalars.specs.Tokens.{comment_front}
use Rattle.yaml_scalars.proofs.tokens.comment_len.Given as goal

abbrev pub invariant-loop-left : goal.invariant-loop-left
invariant-loop-left l = record {
  place : l.left ≡ drop l.at l.text;
  within : l.at ≤ length l.text;
  count : l.at + length (comment_front l.left) ≡ length (comment_front l.text);
}

abbrev pub decreases-loop-left : goal.decreases-loop-left
decreases-loop-left l = length l.left
