use Rattle.std.proofs.Common.{take}
use Rattle.std.specs.List.{All}
use Rattle.clauses.specs.Within.{IsOf}
use Rattle.clauses.proofs.cnf.is_of.Given as goal

abbrev pub invariant-loop-x : goal.invariant-loop-x
invariant-loop-x l = All (IsOf l.variables) (take l.x-index l.clause)
