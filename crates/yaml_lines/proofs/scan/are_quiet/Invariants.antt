use Rattle.std.proofs.Common.{◌≡◌, drop}
use Rattle.yaml_lines.specs.Marks.{all_quiet}
use Rattle.yaml_lines.proofs.scan.are_quiet.Given as goal

abbrev pub invariant-loop-line : goal.invariant-loop-line
invariant-loop-line l = all_quiet (drop l.line-index l.lines) ≡ all_quiet l.lines
