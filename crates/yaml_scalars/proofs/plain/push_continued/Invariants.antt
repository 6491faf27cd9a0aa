use Rattle.std.proofs.Common.{◌≡◌, ◌≤◌, ◌+◌, length}
use Rattle.std.specs.String.{string_bytes}
use Rattle.yaml_scalars.specs.Plain.{goes_on}
use Rattle.yaml_scalars.specs.Gives.{behind}
use Rattle.yaml_scalars.proofs.plain.push_continued.Given as goal

abbrev pub invariant-loop-left : goal.invariant-loop-left
invariant-loop-left l = record {
  few : l.empties + length l.left ≤ length l.lines;
  same : behind (string_bytes l.out) (goes_on l.indent l.empties l.left) ≡ behind (string_bytes l.fn.out) (goes_on l.indent 0 l.lines);
}

abbrev pub decreases-loop-left : goal.decreases-loop-left
decreases-loop-left l = length l.left
