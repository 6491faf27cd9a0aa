use Rattle.std.proofs.Common.{◌*◌, List}
use Rattle.c_core.specs.View.{program_view}
use Rattle.c_meaning.specs.declared.run.Duty.{Duty}
use Rattle.sym_state.specs.Following.{Follows}
use Rattle.sym_flow.specs.Drawing.{cells_drawn, bits_of_cells}
use Rattle.sym_flow.proofs.drawing.draw_cells.Given as goal

-- the cells before the index drew their values
abbrev pub invariant-loop-index : goal.invariant-loop-index
invariant-loop-index l =
    (ds : List Duty) → Follows ds (program_view l.program) (4 * bits_of_cells (program_view l.program) l.object l.index) (bits_of_cells (program_view l.program) l.object l.index) l.initial.sym l.sym (λ v u. Unit {0}) (λ v. cells_drawn (program_view l.program) l.from l.spot l.object 0 l.index)
