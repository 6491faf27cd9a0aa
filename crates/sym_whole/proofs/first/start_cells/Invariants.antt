use Rattle.c_core.specs.View.{program_view}
use Rattle.c_meaning.specs.Cells.{cells_from}
use Rattle.sym_flow.specs.Ways.{Became}
use Rattle.sym_whole.specs.Starting.{with_more}
use Rattle.sym_whole.proofs.first.start_cells.Given as goal

-- so many cells stand
abbrev pub invariant-loop-index : goal.invariant-loop-index
invariant-loop-index l = Became (program_view l.program) 0 l.initial.sym l.sym (λ v. with_more (cells_from l.object 0 l.index l.values))
