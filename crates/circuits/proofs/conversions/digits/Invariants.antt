use Rattle.circuits.proofs.Converted.{Taken}
use Rattle.circuits.proofs.conversions.digits.Given as goal

abbrev pub invariant-loop-i : goal.invariant-loop-i
invariant-loop-i l = Taken l.net l.out.items l.rest l.number l.i
