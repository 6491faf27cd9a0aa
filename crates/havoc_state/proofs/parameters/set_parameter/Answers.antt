use Rattle.std.proofs.Common.{rules, []}
use mir.Val.{SFits}
use mir.Syntax.{w128}
use Rattle.std.proofs.lemmas.Int.{to_z-of_z}
use Rattle.c_core.specs.View.{program_view}
use Rattle.havoc_state.specs.Havocking.{left_of}
use Rattle.havoc_state.proofs.Calling.{parameter_stored}
use Rattle.havoc_state.proofs.parameters.set_parameter.Goals as goal

pub returns : goal.returns
returns c =
    let z : SFits w128 c.args.value.value = search rules in
    let h = rw (c.in_ok-add_started.ensures.cells, to_z-of_z w128 c.args.value.value z) at c.store.ensures c.args.value.ty in
    parameter_stored (program_view c.args.program.now) [] c.args.parameter c.args.value.ty c.type_of_object-ty.result c.args.value.value _ (left_of c.args.machine.now) _ c.type_of_object-ty.ensures h
