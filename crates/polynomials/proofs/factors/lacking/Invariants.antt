use Rattle.std.proofs.Common.{ℕ, ◌≡◌, length}
use Rattle.polynomials.specs.Values.{AreFactorsBelow}
use Rattle.polynomials.proofs.factors.lacking.Given as goal

abbrev pub invariant-loop-i : goal.invariant-loop-i
invariant-loop-i l = (length l.rest ≡ 6) × ((n : ℕ) → AreFactorsBelow n l.a → AreFactorsBelow n l.rest)
