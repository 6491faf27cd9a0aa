use Rattle.std.proofs.Common.{rules, ◌≡◌, refl, Ok, Err, cond}
use mir.Val.{SFits}
use mir.Syntax.{w128}
use Rattle.std.proofs.lemmas.Int.{to_z-of_z}
use Rattle.c_core.specs.Operators.{type_for, op_of_step, is_prefix}
use Rattle.c_core.specs.declared.number.IntType.TheVariants.{Int}
use Rattle.c_meaning.specs.Cells.{read}
use Rattle.c_meaning.specs.Acts.{Go}
use Rattle.run_state.specs.Interpreting.{same, key_of}
use Rattle.havoc_state.specs.Havocking.{left_of}
use Rattle.havoc_state.proofs.Giving.{halted, passed}
use Rattle.havoc_state.proofs.values.bump.Goals as goal

pub returns-in_err-value : goal.returns-in_err-value
returns-in_err-value c =
    let e : c.from_residual.result ≡ Err c.in_err-value.field-0.0 = search rules in
    let x : SFits w128 c.look-old.result = search rules in
    let s = left_of c.args.machine.now in
    let answer = rw (to_z-of_z w128 c.look-old.result x, c.look-old.ensures, c.op_of_step.ensures) at (c.in_err-value.ensures s) in
    rw e (halted same same c.in_err-value.field-0.0 s _ _ answer)

pub returns : goal.returns
returns c =
    let z : SFits w128 c.in_ok-value.value = search rules in
    let x : SFits w128 c.look-old.result = search rules in
    let y : SFits w128 c.store-new.result = search rules in
    let w : SFits w128 c.step_gives.result = search rules in
    let s = left_of c.args.machine.now in
    let from = type_for c.args.program.now.model (op_of_step c.args.op) c.args.ty Int in
    let answer = rw (to_z-of_z w128 c.look-old.result x, c.look-old.ensures, c.op_of_step.ensures) at (c.in_ok-value.ensures s) in
    let k = rw (to_z-of_z w128 c.in_ok-value.value z) at (c.store-new.ensures from) in
    let e = rw (to_z-of_z w128 c.store-new.result y, to_z-of_z w128 c.look-old.result x, c.look-old.ensures) at c.step_gives.ensures in
    let old = read (key_of c.args.key) c.args.machine.now.memory.cells in
    let last = Ok (cond (is_prefix c.args.op) c.store-new.result old) in
    rw (to_z-of_z w128 c.step_gives.result w, e)
    (passed same same c.in_ok-value.value s _ _ _ last answer (passed same same c.store-new.result _ _ _ (λ x s. Go (cond (is_prefix c.args.op) x old) s) last k refl))
