use Rattle.std.proofs.Common.{rules}
use mir.Val.{SFits}
use mir.Syntax.{w128}
use Rattle.std.proofs.lemmas.Int.{to_z-of_z}
use Rattle.c_core.specs.View.{program_view}
use Rattle.run_state.specs.Interpreting.{state_of}
use Rattle.run_state.proofs.Calling.{parameter_stored}
use Rattle.run_state.proofs.parameters.set_parameter.Goals as goal

pub returns-clause-gives : goal.returns-clause-gives
returns-clause-gives g c = λ x.
    let z : SFits w128 c.args.value.value = search rules in
    let h = rw (c.in_ok-add_cells.ensures.cells, to_z-of_z w128 c.args.value.value z) at c.store.ensures.gives c.args.value.ty x in
    parameter_stored (program_view c.args.program.now) g.W.Watcher.Seen g.W.Watcher.after c.args.parameter c.args.value.ty c.type_of_object-ty.result c.args.value.value _ (state_of c.args.machine.now x) _ c.type_of_object-ty.ensures h
