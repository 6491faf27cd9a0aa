use Rattle.std.proofs.Common.{◌≡◌, drop}
use Rattle.clauses.specs.Table.{erased}
use Rattle.clauses.proofs.table.erase.Given as goal

abbrev pub invariant-loop-y : goal.invariant-loop-y
invariant-loop-y l = erased l.cells (drop l.y-index l.clause) ≡ erased l.initial.cells l.clause
