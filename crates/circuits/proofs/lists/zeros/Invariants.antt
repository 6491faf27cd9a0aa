use Rattle.circuits.specs.Numbers.{Counts}
use Rattle.circuits.proofs.lists.zeros.Given as goal

abbrev pub invariant-loop-i : goal.invariant-loop-i
invariant-loop-i l = Counts l.net l.out.items l.i (λ v. 0)
