use Rattle.std.proofs.Common.{length, ◌-◌, ◌≡◌, ◌≤◌, ◌++◌, take, drop}
use Rattle.wv_yaml.specs.Block.{is_pair}
use Rattle.yaml_lines.specs.Chunks.{chunked}
use Rattle.wv_yaml.proofs.block.next_pair.Given as goal

abbrev pub invariant-loop-at : goal.invariant-loop-at
invariant-loop-at l = record {
  within : l.at ≤ length l.lines;
  front : take l.at l.lines ++ (chunked (is_pair l.indent) (drop l.at l.lines)).0 ≡ (chunked (is_pair l.indent) l.lines).0;
  others : (chunked (is_pair l.indent) (drop l.at l.lines)).1 ≡ (chunked (is_pair l.indent) l.lines).1;
}

abbrev pub decreases-loop-at : goal.decreases-loop-at
decreases-loop-at l = length l.lines - l.at
