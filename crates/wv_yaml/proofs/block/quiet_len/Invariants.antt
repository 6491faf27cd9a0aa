use Rattle.std.proofs.Common.{length, ◌-◌, ◌≡◌, ◌≤◌, drop}
use Rattle.yaml_lines.specs.Marks.{ahead}
use Rattle.wv_yaml.proofs.block.quiet_len.Given as goal

abbrev pub invariant-loop-at : goal.invariant-loop-at
invariant-loop-at l = record {
  within : l.at ≤ length l.lines;
  rest : ahead (drop l.at l.lines) ≡ ahead l.lines;
}

abbrev pub decreases-loop-at : goal.decreases-loop-at
decreases-loop-at l = length l.lines - l.at
