use Rattle.std.proofs.Common.{◌≡◌, ◌++◌, drop}
use Rattle.witval.specs.Weeding.{kept_from}
use Rattle.witval.proofs.keeping.keep_invariants.Given as goal

abbrev pub invariant-loop-invariant : goal.invariant-loop-invariant
invariant-loop-invariant l = l.kept ++ kept_from l.number l.numbers (drop l.invariant-index l.invariants) ≡ kept_from l.first l.numbers l.invariants
