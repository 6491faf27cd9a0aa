use Rattle.polynomials.specs.Elimination.{IsReduced}
use Rattle.polynomials.proofs.elimination.divide_by_each.Given as goal

abbrev pub invariant-loop-i : goal.invariant-loop-i
invariant-loop-i l = IsReduced l.width l.facts.items l.fn.question l.rest
