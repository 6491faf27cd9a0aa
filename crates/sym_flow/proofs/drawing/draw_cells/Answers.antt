use Rattle.std.proofs.Common.{◌≡◌, ◌≤◌, ◌*◌, [], rules, arith, subst, ◌∙◌}
use Rattle.c_core.specs.View.{program_view}
use Rattle.c_meaning.specs.Objects.{size_of_object}
use Rattle.sym_state.specs.Following.{Follows}
use Rattle.sym_state.proofs.Nets.{longer_by}
use Rattle.sym_flow.specs.Drawing.{cells_drawn, bits_of_cells}
use Rattle.sym_flow.proofs.Draws.{none_drawn, cells_more, room_cell}
use Rattle.sym_flow.proofs.drawing.draw_cells.Goals as goal

pub loop-index-init : goal.loop-index-init
loop-index-init c ds = none_drawn (program_view c.args.program.now) c.args.from c.args.spot c.args.object ds c.args.sym.now c.requires.fits

pub draw_cell-requires-clause-fits : goal.draw_cell-requires-clause-fits
draw_cell-requires-clause-fits c = (c.loop-index.invariant []).fits

pub draw_cell-requires-clause-room : goal.draw_cell-requires-clause-room
draw_cell-requires-clause-room c =
    let p = program_view c.args.program.now in
    let few : c.loop-index.index ≤ size_of_object p c.args.object = omega (arith, c.loop-index-test.true, c.size_of_object-count.ensures) in
    room_cell p c.args.from c.args.spot c.args.object c.loop-index.index (size_of_object p c.args.object) c.args.sym.now.net c.loop-index.sym.net few (longer_by (c.loop-index.invariant []).added).1 c.requires.room

pub loop-index-preserved : goal.loop-index-preserved
loop-index-preserved c ds =
    cells_more (program_view c.args.program.now) c.args.from c.args.spot c.args.object ds c.loop-index.index c.args.sym.now c.loop-index.sym c.draw_cell.new.sym (c.loop-index.invariant ds) (c.in_ok-draw_cell.ensures ds)

pub returns : goal.returns
returns c ds =
    let p = program_view c.args.program.now in
    let end : c.loop-index.index ≡ c.size_of_object-count.result = search rules in
    subst
    (λ n. Follows ds p (4 * bits_of_cells p c.args.object n) (bits_of_cells p c.args.object n) c.args.sym.now c.loop-index.sym (λ v u. Unit {0}) (λ v. cells_drawn p c.args.from c.args.spot c.args.object 0 n))
    (end ∙ c.size_of_object-count.ensures) (c.loop-index.invariant ds)
