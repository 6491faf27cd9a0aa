use Rattle.std.proofs.Common.{rules, Ok}
use mir.Val.{SFits}
use mir.Syntax.{w128}
use Rattle.std.proofs.lemmas.Int.{to_z-of_z}
use Rattle.c_core.specs.Operators.{type_for}
use Rattle.run_state.specs.Interpreting.{same}
use Rattle.havoc_state.specs.Havocking.{left_of}
use Rattle.havoc_state.proofs.Giving.{passed}
use Rattle.havoc_state.proofs.values.change.Goals as goal

pub returns : goal.returns
returns c =
    let z : SFits w128 c.in_ok-value.value = search rules in
    let y : SFits w128 c.store.result = search rules in
    let s = left_of c.args.machine.now in
    let from = type_for c.args.program.now.model c.args.op c.args.old.ty c.args.with.ty in
    let k = rw (to_z-of_z w128 c.in_ok-value.value z) at (c.store.ensures from) in
    rw (to_z-of_z w128 c.store.result y) (passed same same c.in_ok-value.value s _ _ _ (Ok c.store.result) (c.in_ok-value.ensures s) k)
