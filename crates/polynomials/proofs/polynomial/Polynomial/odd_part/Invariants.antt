use Rattle.std.proofs.Common.{◌≤◌}
use Rattle.polynomials.proofs.polynomial.Polynomial.odd_part.Given as goal

abbrev pub invariant-loop-i : goal.invariant-loop-i
invariant-loop-i l = l.fewest ≤ 64
