use Rattle.std.proofs.Common.{length, ◌≡◌, ◌≤◌, ◌++◌, All}
use denote.Text.{Utf8}
use denote.Shadow.{shadow}
use Rattle.std.specs.Str.{chars}
use Rattle.yaml_lines.specs.Lines.{lines_in}
use Rattle.yaml_lines.specs.Line.{IsSmall}
use Rattle.yaml_lines.proofs.lines.read_lines.Given as goal

abbrev pub invariant-loop-left : goal.invariant-loop-left
invariant-loop-left l = record {
  utf8 : shadow (Utf8 l.left);
  few : length (chars l.left) ≤ length (chars l.text);
  small : All IsSmall l.lines.items;
  same : l.lines.items ++ lines_in (chars l.left) ≡ lines_in (chars l.text);
}

abbrev pub decreases-loop-left : goal.decreases-loop-left
decreases-loop-left l = length (chars l.left)
