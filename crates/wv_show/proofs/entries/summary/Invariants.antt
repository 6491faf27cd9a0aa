use Rattle.std.proofs.Common.{◌≡◌, ◌+◌, ◌++◌, drop, string_bytes}
use Rattle.wv_show.specs.Show.{entries_lines}
use Rattle.wv_show.proofs.entries.summary.Given as goal

abbrev pub invariant-loop-index : goal.invariant-loop-index
invariant-loop-index l = string_bytes l.out ++ entries_lines (l.index + 1) l.number (drop l.index l.witness.entries) ≡ entries_lines 1 1 l.witness.entries
