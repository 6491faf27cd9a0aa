use Rattle.std.proofs.Common.{◌≡◌, ◌-◌, ◌++◌, drop, length, string_bytes}
use Rattle.wv_export.specs.Lrat.{hints_text}
use Rattle.wv_export.proofs.chain_lines.add_hints.Given as goal

abbrev pub invariant-loop-at : goal.invariant-loop-at
invariant-loop-at l = string_bytes l.out ≡ string_bytes l.fn.out ++ hints_text (drop (length l.steps - l.at) l.steps)
