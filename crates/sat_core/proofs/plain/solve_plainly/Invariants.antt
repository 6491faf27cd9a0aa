use Rattle.sat_core.specs.Answers.{IsSolving}
use Rattle.sat_core.proofs.plain.solve_plainly.Given as goal

abbrev pub invariant-loop : goal.invariant-loop
invariant-loop l = IsSolving l.cnf.clauses l.cnf.variables l.counter l.chains l.trail.values.items l.trail.entries.items
