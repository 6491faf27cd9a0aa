use Rattle.polynomials.specs.Elimination.{IsReduced, AllFollow}
use Rattle.polynomials.proofs.elimination.solve.Given as goal

abbrev pub invariant-loop-pivot : goal.invariant-loop-pivot
invariant-loop-pivot l = record {
  question : IsReduced l.width l.fn.given.facts.items l.fn.given.question l.system.question;
  facts : AllFollow l.width l.fn.given.facts.items l.system.facts.items;
}
