use Rattle.std.proofs.Common.{◌≡◌, ◌++◌}
use Rattle.c_meaning.specs.Cells.{cells_from}
use Rattle.flow_code.specs.Programs.{cells_of}
use Rattle.flow_code.proofs.statics.add_started.Given as goal

-- so many cells stand
abbrev pub invariant-loop-index : goal.invariant-loop-index
invariant-loop-index l = cells_of l.cells ≡ cells_of l.initial.cells ++ cells_from l.object 0 l.index l.values
