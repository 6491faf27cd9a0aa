use Rattle.std.proofs.Common.{rules, ◌≡◌, Err, Ok, arith}
use Rattle.c_meaning.specs.Run as runs
use Rattle.c_meaning.specs.Run.{with_cells}
use Rattle.c_meaning.specs.Cells.{cells_from}
use Rattle.c_meaning.specs.Watching.{seen_by}
use Rattle.std.specs.Prelude.{◌++◌, [], vec_capacity}
use Rattle.run_state.specs.Interpreting.{same}
use Rattle.flow_laws.specs.Acting.{program_in, drawn_if}
use Rattle.flow_machine.specs.Views.{state_of}
use Rattle.flow_machine.proofs.Giving.{halts}
use Rattle.flow_machine.proofs.Drawn.{declared_drawn, declared_plain}
use Rattle.flow_machine.proofs.Lasting.{declared_within}
use Rattle.flow_machine.proofs.drawing.declare.Goals as goal

pub returns-in_err-room-clause-gives : goal.returns-in_err-room-clause-gives
returns-in_err-room-clause-gives g c = λ x.
    let p = program_in c.args.code.now in
    let e : c.from_residual.result ≡ Err c.in_err-room.field-0.0 = search rules in
    halts same same c.in_err-room.field-0.0 (state_of c.args.run.now x) (runs.room p g.W.Watcher.Seen (seen_by g.W.Watcher.after) c.args.size (state_of c.args.run.now x))
    (λ _ u. drawn_if c.args.code.now g.W.Watcher.Seen g.W.Watcher.after c.args.draws c.args.spot c.args.object c.args.ty c.args.size (with_cells (u.cells ++ cells_from c.args.object 0 c.args.size []) u))
    c.from_residual.result e (c.in_err-room.ensures.gives p x)

pub returns-in_err-draw_cells-clause-gives : goal.returns-in_err-draw_cells-clause-gives
returns-in_err-draw_cells-clause-gives g c = λ x.
    let e : c.from_residual-in_err-draw_cells.result ≡ Err c.in_err-draw_cells.field-0.0 = search rules in
    rw e (declared_drawn c.args.code.now g.W.Watcher.Seen g.W.Watcher.after c.args.spot c.args.object c.args.ty c.args.size c.args.draws (state_of c.args.run.now x) (state_of c.draw_cells.new.run x)
    c.add_cells.new.memory.cells (Err c.in_err-draw_cells.field-0.0) c.if-draws.true c.in_ok-add_cells.ensures.cells (c.in_ok-room.ensures.gives (program_in c.args.code.now) x) (c.in_err-draw_cells.ensures.gives x))

pub returns-in_ok-draw_cells-clause-gives : goal.returns-in_ok-draw_cells-clause-gives
returns-in_ok-draw_cells-clause-gives g c = λ x.
    declared_drawn c.args.code.now g.W.Watcher.Seen g.W.Watcher.after c.args.spot c.args.object c.args.ty c.args.size c.args.draws (state_of c.args.run.now x) (state_of c.draw_cells.new.run x)
    c.add_cells.new.memory.cells (Ok tt) c.if-draws.true c.in_ok-add_cells.ensures.cells (c.in_ok-room.ensures.gives (program_in c.args.code.now) x) (c.in_ok-draw_cells.ensures.gives x)

pub returns-else-draws-clause-gives : goal.returns-else-draws-clause-gives
returns-else-draws-clause-gives g c = λ x.
    declared_plain c.args.code.now g.W.Watcher.Seen g.W.Watcher.after c.args.spot c.args.object c.args.ty c.args.size c.args.draws (state_of c.args.run.now x)
    c.add_cells.new.memory.cells c.if-draws.false c.in_ok-add_cells.ensures.cells (c.in_ok-room.ensures.gives (program_in c.args.code.now) x)

pub returns-in_err-room-clause-lasting : goal.returns-in_err-room-clause-lasting
returns-in_err-room-clause-lasting g c = λ x counted fits.
    let e : c.from_residual.result ≡ Err c.in_err-room.field-0.0 = search rules in
    rw e c.in_err-room.ensures.lasting

pub returns-in_err-add_cells-clause-lasting : goal.returns-in_err-add_cells-clause-lasting
returns-in_err-add_cells-clause-lasting g c = λ x counted fits.
    let n = declared_within c.args.code.now g.W.Watcher.Seen g.W.Watcher.after c.args.run.now.memory.room (vec_capacity c.args.run.now.draws) c.args.spot c.args.object c.args.size c.args.ty c.args.draws (state_of c.args.run.now x)
    (c.in_ok-room.ensures.gives (program_in c.args.code.now) x) fits in
    let no = c.in_err-add_cells.ensures.within n.0 in
    absurd (cc)

pub returns-in_err-draw_cells-clause-lasting : goal.returns-in_err-draw_cells-clause-lasting
returns-in_err-draw_cells-clause-lasting g c = λ x counted fits.
    let e : c.from_residual-in_err-draw_cells.result ≡ Err c.in_err-draw_cells.field-0.0 = search rules in
    let n = declared_within c.args.code.now g.W.Watcher.Seen g.W.Watcher.after c.args.run.now.memory.room (vec_capacity c.args.run.now.draws) c.args.spot c.args.object c.args.size c.args.ty c.args.draws (state_of c.args.run.now x)
    (c.in_ok-room.ensures.gives (program_in c.args.code.now) x) fits in
    let room = n.1 c.if-draws.true in
    rw e (c.in_err-draw_cells.ensures.lasting counted (omega (arith, room, c.args.run.now.draws.ok.0)))
