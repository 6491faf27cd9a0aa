use Rattle.polynomials.specs.Elimination.{AllFollow}
use Rattle.polynomials.proofs.elimination.divide_each.Given as goal

abbrev pub invariant-loop-i : goal.invariant-loop-i
invariant-loop-i l = AllFollow l.width l.facts.items l.divided.items
