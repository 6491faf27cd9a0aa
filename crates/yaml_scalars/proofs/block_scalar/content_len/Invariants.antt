use Rattle.std.proofs.Common.{length, ◌-◌, ◌≡◌, ◌≤◌, ◌++◌, drop, take}
use Rattle.yaml_scalars.specs.BlockScalar.{while, past, belongs}
use Rattle.yaml_scalars.proofs.block_scalar.content_len.Given as goal

abbrev pub invariant-loop-at : goal.invariant-loop-at
invariant-loop-at l = record {
  within : l.at ≤ length l.lines;
  front : take l.at l.lines ++ while (belongs l.column) (drop l.at l.lines) ≡ while (belongs l.column) l.lines;
  rest : past (belongs l.column) (drop l.at l.lines) ≡ past (belongs l.column) l.lines;
}

abbrev pub decreases-loop-at : goal.decreases-loop-at
decreases-loop-at l = length l.lines - l.at
