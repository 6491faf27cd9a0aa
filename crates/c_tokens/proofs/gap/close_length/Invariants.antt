use Rattle.std.proofs.Common.{◌≡◌, ◌+◌, drop}
use Rattle.std.specs.Option.{option_map}
use Rattle.c_tokens.specs.Gaps.{close_length}
use Rattle.c_tokens.proofs.gap.close_length.Given as goal

abbrev pub invariant-loop-at : goal.invariant-loop-at
invariant-loop-at l = close_length l.text ≡ option_map (λ n. n + l.at) (close_length (drop l.at l.text))
