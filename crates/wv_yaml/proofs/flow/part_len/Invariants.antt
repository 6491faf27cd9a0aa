use Rattle.std.proofs.Common.{length, ◌-◌, ◌≡◌, ◌≤◌, ◌++◌, take, drop}
use Rattle.wv_yaml.specs.Flow.{parts}
use Rattle.wv_yaml.proofs.flow.part_len.Given as goal

abbrev pub invariant-loop-at : goal.invariant-loop-at
invariant-loop-at l = record {
  within : l.at ≤ length l.tokens;
  few : l.nesting ≤ l.at;
  front : take l.at l.tokens ++ (parts l.nesting (drop l.at l.tokens)).0 ≡ (parts 0 l.tokens).0;
  others : (parts l.nesting (drop l.at l.tokens)).1 ≡ (parts 0 l.tokens).1;
}

abbrev pub decreases-loop-at : goal.decreases-loop-at
decreases-loop-at l = length l.tokens - l.at
