use Rattle.std.proofs.Common.{◌≡◌}
use Rattle.clauses.specs.Tseitin.{clauses_below}
use Rattle.clauses.proofs.cnf.listed.Given as goal

abbrev pub invariant-loop-at : goal.invariant-loop-at
invariant-loop-at l = l.clauses ≡ clauses_below l.flags l.net l.at
