use Rattle.std.proofs.Common.{◌≡◌, ◌++◌, drop, string_bytes}
use Rattle.wv_report.specs.Report.{value_lines}
use Rattle.wv_report.proofs.lines.add_values.Given as goal

abbrev pub invariant-loop-draw : goal.invariant-loop-draw
invariant-loop-draw l = string_bytes l.out ++ value_lines (drop l.draw-index l.draws) ≡ string_bytes l.fn.out ++ value_lines l.draws
