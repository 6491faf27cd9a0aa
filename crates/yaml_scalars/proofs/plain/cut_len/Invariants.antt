use Rattle.std.proofs.Common.{length, ◌≡◌, ◌≤◌, ◌++◌, drop, take, false}
use Rattle.yaml_scalars.specs.Plain.{cut, stops_in}
use Rattle.yaml_scalars.proofs.plain.cut_len.Given as goal

abbrev pub invariant-loop-left : goal.invariant-loop-left
invariant-loop-left l = record {
  place : l.left ≡ drop l.at l.text;
  within : l.at ≤ length l.text;
  front : take l.at l.text ++ (cut (stops_in l.is_flow) l.is_behind l.left).0 ≡ (cut (stops_in l.is_flow) false l.text).0;
  rest : (cut (stops_in l.is_flow) l.is_behind l.left).1 ≡ (cut (stops_in l.is_flow) false l.text).1;
}

abbrev pub decreases-loop-left : goal.decreases-loop-left
decreases-loop-left l = length l.left
