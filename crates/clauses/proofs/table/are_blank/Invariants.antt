use Rattle.std.proofs.Common.{take}
use Rattle.clauses.specs.Table.{AreBlank}
use Rattle.clauses.proofs.table.are_blank.Given as goal

abbrev pub invariant-loop-variable : goal.invariant-loop-variable
invariant-loop-variable l = AreBlank l.cells (take l.variable-index l.variables)
