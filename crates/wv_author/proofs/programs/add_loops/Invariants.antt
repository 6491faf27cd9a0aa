use Rattle.std.proofs.Common.{◌≡◌, ◌+◌, ◌++◌, drop, string_bytes}
use Rattle.wv_author.specs.Programs.{loops_lines}
use Rattle.wv_author.proofs.programs.add_loops.Given as goal

abbrev pub invariant-loop-bound : goal.invariant-loop-bound
invariant-loop-bound l = record {
  lines : string_bytes l.out ++ loops_lines l.k (drop l.bound-index l.bounds) ≡ string_bytes l.fn.out ++ loops_lines 1 l.bounds;
  count : l.k ≡ l.bound-index + 1;
}
