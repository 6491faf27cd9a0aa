use Rattle.std.proofs.Common.{◌≡◌, ◌++◌, drop}
use Rattle.c_core.specs.View.{program_view}
use Rattle.c_meaning.specs.Run.{static_cells, first_cells}
use Rattle.flow_code.specs.Programs.{cells_of}
use Rattle.flow_code.proofs.statics.first_cells.Given as goal

-- what stands, and what is left to add
abbrev pub invariant-loop-object : goal.invariant-loop-object
invariant-loop-object l = record {
  at : l.number ≡ l.object-index;
  cells : cells_of l.cells ++ static_cells l.program.starts l.number (drop l.number l.program.objects) ≡ first_cells (program_view l.program);
}
