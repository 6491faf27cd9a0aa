use Rattle.std.proofs.Common.{◌≡◌, ◌++◌, ◌∷◌, [], drop}
use Rattle.std.specs.String.{string_bytes}
use Rattle.std.specs.List.{flat_map}
use Rattle.std.specs.Str.{encode_utf8_all}
use Rattle.wv_yaml.specs.Canon.{escaped}
use Rattle.wv_yaml.proofs.quoting.push_escaped_chars.Given as goal

abbrev pub invariant-loop-c : goal.invariant-loop-c
invariant-loop-c l = string_bytes l.out ++ encode_utf8_all (flat_map escaped (drop l.c-index l.text)) ≡ (string_bytes l.fn.out ++ 34 ∷ []) ++ encode_utf8_all (flat_map escaped l.text)
