use Rattle.polynomials.specs.Elimination.{IsReduced}
use Rattle.polynomials.proofs.elimination.reduce.Given as goal

abbrev pub invariant-loop-round : goal.invariant-loop-round
invariant-loop-round l = IsReduced l.width l.fn.facts.items l.fn.question l.rest
