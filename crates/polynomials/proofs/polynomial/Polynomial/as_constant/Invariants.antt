use Rattle.polynomials.proofs.Terms.{Summed}
use Rattle.polynomials.proofs.polynomial.Polynomial.as_constant.Given as goal

abbrev pub invariant-loop-i : goal.invariant-loop-i
invariant-loop-i l = Summed l.self l.sum l.i
