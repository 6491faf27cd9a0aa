use Rattle.std.proofs.Common.{◌≡◌, ◌≤◌, ◌++◌, length, take}
use Rattle.std.specs.String.{string_bytes}
use Rattle.std.specs.Str.{encode_utf8_all}
use Rattle.yaml_scalars.proofs.plain.push_chars.Given as goal

abbrev pub invariant-loop-more : goal.invariant-loop-more
invariant-loop-more l = record {
  within : l.more ≤ length l.left;
  same : string_bytes l.out ++ encode_utf8_all (take l.more l.left) ≡ string_bytes l.fn.out ++ encode_utf8_all (take l.count l.text);
}

abbrev pub decreases-loop-more : goal.decreases-loop-more
decreases-loop-more l = l.more
