use Rattle.std.proofs.Common.{◌≡◌, ◌≤◌, length, drop}
use denote.Text.{Utf8}
use denote.Shadow.{shadow}
use Rattle.std.specs.Str.{chars}
use Rattle.yaml_lines.proofs.characters.slice_from.Given as goal

abbrev pub invariant-loop-more : goal.invariant-loop-more
invariant-loop-more l = record {
  text : shadow (Utf8 l.left);
  within : l.more ≤ length (chars l.left);
  same : drop l.more (chars l.left) ≡ drop l.count (chars l.text);
}

abbrev pub decreases-loop-more : goal.decreases-loop-more
decreases-loop-more l = l.more
