use Rattle.std.proofs.Common.{◌≡◌, ◌++◌, drop}
use Rattle.flow_code.specs.Programs.{cells_of}
use Rattle.flow_machine.proofs.beginning.first_cells.Given as goal

-- what stands, and what is left to add
abbrev pub invariant-loop-cell : goal.invariant-loop-cell
invariant-loop-cell l = l.memory.cells ++ cells_of (drop l.cell-index l.code.first) ≡ cells_of l.code.first
