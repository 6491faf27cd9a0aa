use Rattle.std.proofs.Common.{◌≡◌, ℕ, Some}
use Rattle.sat_newness.specs.Pairs.{HoldsAt}
use Rattle.sat_newness.proofs.pairs.find_pair.Given as goal

abbrev pub invariant-loop-number : goal.invariant-loop-number
invariant-loop-number l = (x : ℕ) → l.open ≡ Some x → HoldsAt l.clause x
