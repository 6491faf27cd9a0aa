use Rattle.std.proofs.Common.{◌≡◌, ◌≤◌, ◌-◌, take, drop}
use Rattle.yaml_lines.specs.Marks.{without_end}
use Rattle.yaml_lines.proofs.scan.len_without_end.Given as goal

abbrev pub invariant-loop-at : goal.invariant-loop-at
invariant-loop-at l = record {
  place : l.left ≡ drop l.at l.text;
  some : l.at ≤ l.len;
  within : l.end ≤ l.at;
  same : take l.end l.text ≡ without_end (take l.at l.text);
}

abbrev pub decreases-loop-at : goal.decreases-loop-at
decreases-loop-at l = l.len - l.at
