use Rattle.std.proofs.Common.{rules}
use mir.Val.{SFits}
use mir.Syntax.{w128}
use Rattle.std.proofs.lemmas.Int.{to_z-of_z}
use Rattle.c_core.specs.Operators.{type_for}
use Rattle.run_state.proofs.Giving.{went}
use Rattle.run_state.proofs.values.change.Goals as goal

pub returns-clause-gives : goal.returns-clause-gives
returns-clause-gives g c =
    let z : SFits w128 c.in_ok-value.value = search rules in
    let y : SFits w128 c.store.result = search rules in
    let from = type_for c.args.program.now.model c.args.op c.args.old.ty c.args.with.ty in
    let k = rw (to_z-of_z w128 c.in_ok-value.value z) at (c.store.ensures.gives from (g.W.Watcher.seen c.operate.new.watcher)) in
    rw (to_z-of_z w128 c.store.result y) (went c.in_ok-value.value _ _ _ _ c.in_ok-value.ensures.gives k)
