use Rattle.std.proofs.Common.{rules, ◌≡◌, Err}
use mir.Val.{SFits}
use mir.Syntax.{w128}
use Rattle.std.proofs.lemmas.Int.{to_z-of_z}
use Rattle.c_core.specs.View.{program_view}
use Rattle.run_state.specs.Interpreting.{state_of}
use Rattle.run_state.proofs.Declaring.{cell_halted, cell_on}
use Rattle.run_state.proofs.cells.draw_cell.Goals as goal

pub returns-in_err-value-clause-gives : goal.returns-in_err-value-clause-gives
returns-in_err-value-clause-gives g c = λ x.
    let e : c.from_residual.result ≡ Err c.in_err-value.field-0.0 = search rules in
    rw e (cell_halted (program_view c.args.program.now) g.W.Watcher.Seen g.W.Watcher.after c.args.spot c.args.object c.args.index c.type_of_object-ty.result (state_of c.args.machine.now x) (state_of c.draw.new.machine x) c.in_err-value.field-0.0 c.type_of_object-ty.ensures (c.in_err-value.ensures.gives x))

pub returns-clause-gives : goal.returns-clause-gives
returns-clause-gives g c = λ x.
    let z : SFits w128 c.in_ok-value.value = search rules in
    let h = simp to_z-of_z at c.set.ensures.cells in
    rw h (cell_on (program_view c.args.program.now) g.W.Watcher.Seen g.W.Watcher.after c.args.spot c.args.object c.args.index c.type_of_object-ty.result c.in_ok-value.value (state_of c.args.machine.now x) (state_of c.draw.new.machine x) c.type_of_object-ty.ensures (c.in_ok-value.ensures.gives x))
