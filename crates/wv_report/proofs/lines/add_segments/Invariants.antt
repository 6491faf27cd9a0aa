use Rattle.std.proofs.Common.{◌≡◌, ◌+◌, ◌++◌, drop, string_bytes}
use Rattle.wv_report.specs.Report.{segment_lines}
use Rattle.wv_report.proofs.lines.add_segments.Given as goal

abbrev pub invariant-loop-index : goal.invariant-loop-index
invariant-loop-index l = string_bytes l.out ++ segment_lines (l.index + 1) (drop l.index l.events) ≡ string_bytes l.fn.out ++ segment_lines 1 l.events
