use Rattle.std.proofs.Common.{length, ◌≡◌, ◌≤◌, ◌++◌, ◌+◌, drop, take}
use Rattle.yaml_scalars.specs.Quoted.{white_front}
use Rattle.yaml_scalars.proofs.quoted.white_len.Given as goal

abbrev pub invariant-loop-left : goal.invariant-loop-left
invariant-loop-left l = record {
  place : l.left ≡ drop l.at l.text;
  within : l.at ≤ length l.text;
  front : take l.at l.text ++ white_front l.left ≡ white_front l.text;
  count : l.at + length (white_front l.left) ≡ length (white_front l.text);
}

abbrev pub decreases-loop-left : goal.decreases-loop-left
decreases-loop-left l = length l.left
