use Rattle.polynomials.proofs.Summing.{Multiplied}
use Rattle.polynomials.proofs.multiples.multiply.Given as goal

abbrev pub invariant-loop-i : goal.invariant-loop-i
invariant-loop-i l = Multiplied l.width l.p l.q l.product l.i
