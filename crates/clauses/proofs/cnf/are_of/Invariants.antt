use Rattle.std.proofs.Common.{take}
use Rattle.clauses.specs.Within.{AreOf}
use Rattle.clauses.proofs.cnf.are_of.Given as goal

abbrev pub invariant-loop-clause : goal.invariant-loop-clause
invariant-loop-clause l = AreOf l.variables (take l.clause-index l.clauses)
