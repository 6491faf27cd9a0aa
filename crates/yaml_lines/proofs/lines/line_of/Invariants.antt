use Rattle.std.proofs.Common.{length, ◌≡◌, ◌+◌}
use denote.Text.{Utf8}
use denote.Shadow.{shadow}
use Rattle.std.specs.Str.{chars}
use Rattle.yaml_lines.specs.Lines.{spaces, unspaced}
use Rattle.yaml_lines.proofs.lines.line_of.Given as goal

abbrev pub invariant-loop-left : goal.invariant-loop-left
invariant-loop-left l = record {
  utf8 : shadow (Utf8 l.left);
  size : l.indent + length (chars l.left) ≡ length (chars l.text);
  count : l.indent + spaces (chars l.left) ≡ spaces (chars l.text);
  rest : unspaced (chars l.left) ≡ unspaced (chars l.text);
}

abbrev pub decreases-loop-left : goal.decreases-loop-left
decreases-loop-left l = length (chars l.left)
