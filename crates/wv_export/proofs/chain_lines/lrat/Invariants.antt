use Rattle.std.proofs.Common.{◌≡◌, ◌+◌, ◌++◌, drop, string_bytes}
use Rattle.wv_export.specs.Lrat.{lrat_lines, lrat_text}
use Rattle.wv_export.proofs.chain_lines.lrat.Given as goal

abbrev pub invariant-loop-index : goal.invariant-loop-index
invariant-loop-index l = string_bytes l.out ++ lrat_lines (l.clauses + l.index + 1) (drop l.index l.log.chains) ≡ lrat_text l.clauses l.log.chains
