use Rattle.polynomials.proofs.Summing.{Added}
use Rattle.polynomials.proofs.polynomial.Polynomial.add_multiple.Given as goal

abbrev pub invariant-loop-i : goal.invariant-loop-i
invariant-loop-i l = Added l.width l.fn.self l.coefficient l.factors l.other l.self l.i
