use Rattle.clauses.proofs.Accepting.{Accepting}
use Rattle.clauses.proofs.accept.accepts_log.Given as goal

abbrev pub invariant-loop-at : goal.invariant-loop-at
invariant-loop-at l = Accepting l.cnf.variables l.cnf.clauses l.log.chains l.cells.items l.at
