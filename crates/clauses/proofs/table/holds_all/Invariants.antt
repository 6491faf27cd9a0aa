use Rattle.std.proofs.Common.{take}
use Rattle.clauses.specs.Table.{AreHeld}
use Rattle.clauses.proofs.table.holds_all.Given as goal

abbrev pub invariant-loop-y : goal.invariant-loop-y
invariant-loop-y l = AreHeld l.cells (take l.y-index l.clause)
