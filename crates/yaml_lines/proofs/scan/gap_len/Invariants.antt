use Rattle.std.proofs.Common.{length, ◌≡◌, ◌≤◌, drop, take, ◌++◌, ◌+◌}
use Rattle.yaml_lines.specs.Marks.{gap, trimmed}
use Rattle.yaml_lines.proofs.scan.gap_len.Given as goal

abbrev pub invariant-loop-left : goal.invariant-loop-left
invariant-loop-left l = record {
  place : l.left ≡ drop l.at l.text;
  within : l.at ≤ length l.text;
  count : l.at + length (gap l.left) ≡ length (gap l.text);
  front : take l.at l.text ++ gap l.left ≡ gap l.text;
  rest : trimmed l.left ≡ trimmed l.text;
}

abbrev pub decreases-loop-left : goal.decreases-loop-left
decreases-loop-left l = length l.left
