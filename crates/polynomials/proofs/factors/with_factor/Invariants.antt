use Rattle.polynomials.proofs.Carrying.{Carried}
use Rattle.polynomials.proofs.factors.with_factor.Given as goal

abbrev pub invariant-loop-i : goal.invariant-loop-i
invariant-loop-i l = Carried l.fn.factors l.x l.product l.carried l.i
