use Rattle.std.proofs.Common.{length, ◌-◌, ◌≡◌, ◌≤◌, ◌++◌, take, drop}
use Rattle.yaml_scalars.specs.BlockScalar.{while, past}
use Rattle.wv_yaml.specs.Document.{is_plain_line}
use Rattle.wv_yaml.proofs.reading.text_len.Given as goal

abbrev pub invariant-loop-at : goal.invariant-loop-at
invariant-loop-at l = record {
  within : l.at ≤ length l.lines;
  front : take l.at l.lines ++ while is_plain_line (drop l.at l.lines) ≡ while is_plain_line l.lines;
  rest : past is_plain_line (drop l.at l.lines) ≡ past is_plain_line l.lines;
}

abbrev pub decreases-loop-at : goal.decreases-loop-at
decreases-loop-at l = length l.lines - l.at
