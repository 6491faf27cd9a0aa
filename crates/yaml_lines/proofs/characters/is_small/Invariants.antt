use Rattle.std.proofs.Common.{◌<◌, ◌^◌, length, drop}
use Rattle.std.specs.Str.{chars}
use Rattle.yaml_lines.specs.Lines.{joined, after_breaks}
use Rattle.yaml_lines.proofs.characters.is_small.Given as goal

abbrev pub invariant-loop-line : goal.invariant-loop-line
invariant-loop-line l = record {
  some : 0 < l.room;
  rest : length (after_breaks l.column (drop l.line-index l.lines)) < l.room → length (joined l.column (chars l.text) l.lines) < 2 ^ 63;
}
