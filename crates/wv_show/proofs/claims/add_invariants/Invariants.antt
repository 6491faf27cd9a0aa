use Rattle.std.proofs.Common.{◌≡◌, ◌+◌, ◌++◌, drop, string_bytes}
use Rattle.wv_show.specs.Show.{invariant_lines}
use Rattle.wv_show.proofs.claims.add_invariants.Given as goal

abbrev pub invariant-loop-invariant : goal.invariant-loop-invariant
invariant-loop-invariant l = record {
  lines : string_bytes l.out ++ invariant_lines l.number (drop l.invariant-index l.invariants) ≡ string_bytes l.fn.out ++ invariant_lines l.fn.first l.invariants;
  count : l.number ≡ l.fn.first + l.invariant-index;
}
