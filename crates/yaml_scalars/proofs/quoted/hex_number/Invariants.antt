use Rattle.std.proofs.Common.{◌≡◌, ◌≤◌, ◌<◌, ◌-◌, ◌^◌, length, drop}
use Rattle.yaml_scalars.specs.Quoted.{number}
use Rattle.yaml_scalars.proofs.quoted.hex_number.Given as goal

abbrev pub invariant-loop-at : goal.invariant-loop-at
invariant-loop-at l = record {
  place : l.left ≡ drop l.at l.text;
  within : l.at ≤ length l.text;
  few : l.at ≤ l.count;
  small : l.value < 16 ^ l.at;
  rest : number (l.count - l.at) l.value (drop l.at l.text) ≡ number l.count 0 l.text;
}

abbrev pub decreases-loop-at : goal.decreases-loop-at
decreases-loop-at l = l.count - l.at
