use Rattle.std.proofs.Common.{rules, refl, cond}
use mir.Val.{SFits}
use mir.Syntax.{w128}
use Rattle.std.proofs.lemmas.Int.{to_z-of_z}
use Rattle.c_core.specs.Operators.{type_for, op_of_step, is_prefix}
use Rattle.c_core.specs.declared.number.IntType.TheVariants.{Int}
use Rattle.c_meaning.specs.Cells.{read}
use Rattle.c_meaning.specs.Acts.{Go}
use Rattle.run_state.specs.Interpreting.{key_of}
use Rattle.run_state.proofs.Giving.{went}
use Rattle.run_state.proofs.values.bump.Goals as goal

pub returns-clause-gives : goal.returns-clause-gives
returns-clause-gives g c =
    let z : SFits w128 c.in_ok-value.value = search rules in
    let x : SFits w128 c.look-old.result = search rules in
    let y : SFits w128 c.store-new.result = search rules in
    let w : SFits w128 c.step_gives.result = search rules in
    let from = type_for c.args.program.now.model (op_of_step c.args.op) c.args.ty Int in
    let answer = rw (to_z-of_z w128 c.look-old.result x, c.look-old.ensures, c.op_of_step.ensures) at c.in_ok-value.ensures.gives in
    let k = rw (to_z-of_z w128 c.in_ok-value.value z) at (c.store-new.ensures.gives from (g.W.Watcher.seen c.operate.new.watcher)) in
    let e = rw (to_z-of_z w128 c.store-new.result y, to_z-of_z w128 c.look-old.result x, c.look-old.ensures) at c.step_gives.ensures in
    let old = read (key_of c.args.key) c.args.machine.now.memory.cells in
    rw (to_z-of_z w128 c.step_gives.result w, e)
    (went c.in_ok-value.value _ _ _ _ answer (went c.store-new.result _ _ (λ x s. Go (cond (is_prefix c.args.op) x old) s) _ k refl))
