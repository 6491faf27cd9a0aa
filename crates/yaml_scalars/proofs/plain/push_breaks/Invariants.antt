use Rattle.std.proofs.Common.{◌≡◌, ◌++◌}
use Rattle.std.specs.String.{string_bytes}
use Rattle.std.specs.Str.{encode_utf8_all}
use Rattle.yaml_lines.specs.Marks.{breaks}
use Rattle.yaml_scalars.proofs.plain.push_breaks.Given as goal

abbrev pub invariant-loop-left : goal.invariant-loop-left
invariant-loop-left l = string_bytes l.out ++ encode_utf8_all (breaks l.left) ≡ string_bytes l.fn.out ++ encode_utf8_all (breaks l.count)

abbrev pub decreases-loop-left : goal.decreases-loop-left
decreases-loop-left l = l.left
