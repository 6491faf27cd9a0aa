use Rattle.polynomials.specs.Elimination.{IsReducedBy}
use Rattle.polynomials.proofs.division.divide.Given as goal

abbrev pub invariant-loop-step : goal.invariant-loop-step
invariant-loop-step l = IsReducedBy l.width l.fact l.polynomial l.rest
