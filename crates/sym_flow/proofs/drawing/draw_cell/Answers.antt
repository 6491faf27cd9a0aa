use Rattle.std.proofs.Common.{refl}
use Rattle.c_core.specs.View.{program_view}
use Rattle.sym_flow.proofs.Draws.{cell_follows}
use Rattle.sym_flow.proofs.drawing.draw_cell.Goals as goal

pub returns : goal.returns
returns c ds =
    cell_follows (program_view c.args.program.now) ds c.args.from c.args.spot c.args.object c.args.index c.args.sym.now c.draw.new.sym c.write.new.sym c.type_of_object-ty.result c.in_ok-value.value.bits c.draw.new.sym.live
    c.type_of_object-ty.ensures refl c.in_ok-value.ensures c.in_ok-write.ensures
