use Rattle.polynomials.proofs.Carrying.{Timed}
use Rattle.polynomials.proofs.factors.times.Given as goal

abbrev pub invariant-loop-i : goal.invariant-loop-i
invariant-loop-i l = Timed l.fn.a l.b l.product l.i
