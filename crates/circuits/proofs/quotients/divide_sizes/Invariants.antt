use Rattle.circuits.proofs.Dividing.{Dividing}
use Rattle.circuits.proofs.quotients.divide_sizes.Given as goal

abbrev pub invariant-loop-i : goal.invariant-loop-i
invariant-loop-i l = Dividing l.fn.net l.net l.a l.b l.quotient.items l.rest.items l.i
