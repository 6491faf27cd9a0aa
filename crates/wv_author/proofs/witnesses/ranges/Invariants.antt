use Rattle.std.proofs.Common.{◌≡◌, ◌+◌, ◌++◌, drop}
use Rattle.wv_author.specs.Witnesses.{ranges}
use Rattle.wv_author.proofs.witnesses.ranges.Given as goal

abbrev pub invariant-loop-bound : goal.invariant-loop-bound
invariant-loop-bound l = record {
  so_far : l.all ++ ranges l.k (drop l.bound-index l.bounds) ≡ ranges 1 l.bounds;
  count : l.k ≡ l.bound-index + 1;
}
