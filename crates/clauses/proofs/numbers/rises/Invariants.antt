use Rattle.clauses.proofs.Ordered.{RisesBelow}
use Rattle.clauses.proofs.numbers.rises.Given as goal

abbrev pub invariant-loop-i : goal.invariant-loop-i
invariant-loop-i l = RisesBelow l.numbers l.i
