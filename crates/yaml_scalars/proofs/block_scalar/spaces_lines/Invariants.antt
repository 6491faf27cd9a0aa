use Rattle.std.proofs.Common.{length, ◌-◌, ◌≡◌, ◌≤◌, ◌++◌, drop, take}
use Rattle.yaml_scalars.specs.BlockScalar.{while, past, is_spaces}
use Rattle.yaml_scalars.proofs.block_scalar.spaces_lines.Given as goal

abbrev pub invariant-loop-at : goal.invariant-loop-at
invariant-loop-at l = record {
  within : l.at ≤ length l.lines;
  front : take l.at l.lines ++ while is_spaces (drop l.at l.lines) ≡ while is_spaces l.lines;
  rest : past is_spaces (drop l.at l.lines) ≡ past is_spaces l.lines;
}

abbrev pub decreases-loop-at : goal.decreases-loop-at
decreases-loop-at l = length l.lines - l.at
