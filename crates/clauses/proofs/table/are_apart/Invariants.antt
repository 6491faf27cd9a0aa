use Rattle.std.proofs.Common.{take}
use Rattle.clauses.specs.Table.{AreApart}
use Rattle.clauses.proofs.table.are_apart.Given as goal

abbrev pub invariant-loop-y : goal.invariant-loop-y
invariant-loop-y l = AreApart l.cells (take l.y-index l.clause)
