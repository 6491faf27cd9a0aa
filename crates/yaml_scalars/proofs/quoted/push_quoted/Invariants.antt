use Rattle.std.proofs.Common.{◌≡◌, ◌≤◌, length, drop}
use Rattle.std.specs.String.{string_bytes}
use Rattle.yaml_scalars.specs.Quoted.{quoted, step_in}
use Rattle.yaml_scalars.specs.Gives.{with_text}
use Rattle.yaml_scalars.proofs.Quotes.{with_count}
use Rattle.yaml_scalars.proofs.quoted.push_quoted.Given as goal

abbrev pub invariant-loop-left : goal.invariant-loop-left
invariant-loop-left l = record {
  place : l.left ≡ drop l.at l.text;
  within : l.at ≤ length l.text;
  same : with_count l.at (string_bytes l.out) (quoted (step_in l.is_double) 0 (drop l.at l.text)) ≡ with_text (string_bytes l.fn.out) (quoted (step_in l.is_double) 0 l.text);
}

abbrev pub decreases-loop-left : goal.decreases-loop-left
decreases-loop-left l = length l.left
