use Rattle.std.proofs.Common.{◌≡◌, ◌+◌, false, drop}
use Rattle.std.specs.Option.{option_map}
use Rattle.c_tokens.specs.Scan.{string_end}
use Rattle.c_tokens.proofs.quoted.string_end.Given as goal

abbrev pub invariant-loop-at : goal.invariant-loop-at
invariant-loop-at l = string_end false l.text ≡ option_map (λ n. n + l.at) (string_end l.passing (drop l.at l.text))
