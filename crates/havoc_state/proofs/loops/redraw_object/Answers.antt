use Rattle.std.proofs.Common.{rules, ◌≡◌, ◌+◌, [], suc, Err, arith}
use Rattle.c_core.specs.View.{program_view}
use Rattle.havoc_state.specs.Havocking.{left_of}
use Rattle.havoc_state.proofs.Redrawing.{cells_halted, cells_on, cells_done}
use Rattle.havoc_state.proofs.loops.redraw_object.Goals as goal

pub returns-in_err-redraw_cell : goal.returns-in_err-redraw_cell
returns-in_err-redraw_cell c =
    let e : c.from_residual.result ≡ Err c.in_err-redraw_cell.field-0.0 = search rules in
    rw (e, ← c.size_of_object-size.ensures) (cells_halted (program_view c.args.program.now) [] c.args.spot c.args.object c.size_of_object-size.result c.loop-index.index c.loop-index-test.true (left_of c.loop-index.machine) (left_of c.redraw_cell.new.machine) _
    c.loop-index.invariant c.in_err-redraw_cell.field-0.0 c.in_err-redraw_cell.ensures)

pub loop-index-preserved : goal.loop-index-preserved
loop-index-preserved c =
    let e : c.loop-index.index + 1 ≡ suc c.loop-index.index = omega arith in
    rw e (cells_on (program_view c.args.program.now) [] c.args.spot c.args.object c.size_of_object-size.result c.loop-index.index c.loop-index-test.true (left_of c.loop-index.machine) (left_of c.redraw_cell.new.machine) _
    c.loop-index.invariant c.in_ok-redraw_cell.ensures)

pub returns : goal.returns
returns c =
    let e : c.loop-index.index ≡ c.size_of_object-size.result = search rules in
    rw (← c.size_of_object-size.ensures) (cells_done (program_view c.args.program.now) [] c.args.spot c.args.object c.size_of_object-size.result c.loop-index.index (left_of c.loop-index.machine) _ e c.loop-index.invariant)
