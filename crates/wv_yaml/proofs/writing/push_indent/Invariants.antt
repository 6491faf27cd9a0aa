use Rattle.std.proofs.Common.{◌≡◌, ◌++◌, []}
use Rattle.std.specs.String.{string_bytes}
use Rattle.yaml_lines.specs.Marks.{indented}
use Rattle.wv_yaml.proofs.writing.push_indent.Given as goal

abbrev pub invariant-loop-left : goal.invariant-loop-left
invariant-loop-left l = string_bytes l.out ++ indented l.left [] ≡ string_bytes l.fn.out ++ indented l.column []

abbrev pub decreases-loop-left : goal.decreases-loop-left
decreases-loop-left l = l.left
