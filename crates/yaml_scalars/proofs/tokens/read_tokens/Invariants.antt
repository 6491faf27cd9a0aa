use Rattle.std.proofs.Common.{length, ◌≡◌, ◌<◌, ◌^◌, false}
use Rattle.yaml_scalars.specs.Tokens.{tokens}
use Rattle.yaml_scalars.proofs.TokenSteps.{together}
use Rattle.yaml_scalars.proofs.tokens.read_tokens.Given as goal

abbrev pub invariant-loop-left : goal.invariant-loop-left
invariant-loop-left l = record {
  small : length l.left < 2 ^ 63;
  same : together l.out.items (tokens l.is_behind 0 l.left) ≡ tokens false 0 l.text;
}

abbrev pub decreases-loop-left : goal.decreases-loop-left
decreases-loop-left l = length l.left
