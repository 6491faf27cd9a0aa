use Rattle.std.proofs.Common.{◌*◌, [], get_or, arith, refl, subst}
use Rattle.std.proofs.lemmas.List.{take_all}
use Rattle.c_core.specs.View.{program_view}
use Rattle.sym_meaning.specs.Obliging.{redraw}
use Rattle.sym_state.specs.Following.{Follows}
use Rattle.sym_state.proofs.Nets.{longer_by}
use Rattle.sym_flow.specs.Drawing.{bits_of_objects}
use Rattle.sym_flow.proofs.Draws.{none_redrawn, objects_more, room_next}
use Rattle.sym_flow.proofs.drawing.redraw.Goals as goal

pub loop-object-init : goal.loop-object-init
loop-object-init c ds I = none_redrawn (program_view c.args.program.now) ds I c.args.spot c.args.sym.now _ c.requires.fits refl

pub draw_cells-requires-clause-fits : goal.draw_cells-requires-clause-fits
draw_cells-requires-clause-fits c = (c.loop-object.invariant [] []).fits

pub draw_cells-requires-clause-room : goal.draw_cells-requires-clause-room
draw_cells-requires-clause-room c =
    room_next (program_view c.args.program.now) c.args.objects.now c.loop-object.object-index (get_or c.args.objects.now c.loop-object.object-index 0) c.args.sym.now.net c.loop-object.sym.net c.loop-object-test.true refl
    (longer_by (c.loop-object.invariant [] []).added).1 c.requires.room

pub loop-object-preserved : goal.loop-object-preserved
loop-object-preserved c ds I =
    objects_more (program_view c.args.program.now) ds I c.args.spot c.args.objects.now c.loop-object.object-index (get_or c.args.objects.now c.loop-object.object-index 0) c.args.sym.now c.loop-object.sym c.draw_cells.new.sym
    c.loop-object-test.true refl (c.loop-object.invariant ds I) (c.in_ok-draw_cells.ensures ds)

pub returns : goal.returns
returns c ds I =
    let p = program_view c.args.program.now in
    subst (λ z. Follows ds p (4 * bits_of_objects p z) (bits_of_objects p z) c.args.sym.now c.loop-object.sym (λ v u. Unit {0}) (λ v. redraw p I c.args.spot z))
    (take_all c.loop-object.object-index c.args.objects.now (omega (arith, c.loop-object-test.false))) (c.loop-object.invariant ds I)
