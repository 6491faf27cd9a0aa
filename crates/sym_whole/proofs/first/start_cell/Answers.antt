use Rattle.std.proofs.Common.{rules, refl}
use mir.Val.{SFits}
use mir.Syntax.{w128}
use Rattle.std.proofs.lemmas.Int.{to_z-of_z}
use Rattle.c_core.specs.View.{program_view}
use Rattle.sym_flow.proofs.Declares.{cell_became}
use Rattle.sym_whole.proofs.first.start_cell.Goals as goal

pub returns : goal.returns
returns c =
    let z : SFits w128 c.args.value = search rules in
    cell_became (program_view c.args.program.now) c.args.sym.now c.args.object c.args.index c.args.value c.type_of_object-ty.result (record { object = c.args.object; index = c.args.index; bits = c.in_ok-bits.bits }) c.push.new.self c.requires.fits
    c.type_of_object-ty.ensures refl refl (rw (to_z-of_z w128 c.args.value z) at c.in_ok-bits.ensures) c.in_ok-push.ensures.items
