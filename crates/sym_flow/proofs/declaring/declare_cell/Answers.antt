use Rattle.std.proofs.Common.{refl, pos}
use Rattle.c_core.specs.View.{program_view}
use Rattle.sym_flow.proofs.Declares.{cell_became}
use Rattle.sym_flow.proofs.declaring.declare_cell.Goals as goal

pub returns : goal.returns
returns c =
    cell_became (program_view c.args.program.now) c.args.sym.now c.args.object c.args.index (pos 0) c.type_of_object-ty.result (record { object = c.args.object; index = c.args.index; bits = c.in_ok-bits.bits }) c.push.new.self c.requires.fits
    c.type_of_object-ty.ensures refl refl c.in_ok-bits.ensures c.in_ok-push.ensures.items
