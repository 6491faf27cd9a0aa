use Rattle.std.proofs.Common.{◌<◌, ◌∙◌, length, sym, arith}
use Rattle.c_core.specs.Typing.{is_default}
use Rattle.run_state.proofs.Choosing.{none_yet, found_first}
use Rattle.run_state.proofs.arms.default_arm.Goals as goal

pub returns-then-is_other : goal.returns-then-is_other
returns-then-is_other c =
    let h : c.loop-number.number < length c.args.arms.now = omega arith in
    found_first is_default c.args.arms.now c.loop-number.number c.index-arms-number.result h c.index-arms-number.is c.loop-number.invariant (sym c.is_other.ensures ∙ c.if-is_other.true)

pub loop-number-preserved : goal.loop-number-preserved
loop-number-preserved c =
    let h : c.loop-number.number < length c.args.arms.now = omega arith in
    none_yet is_default c.args.arms.now c.loop-number.number c.index-arms-number.result h c.index-arms-number.is c.loop-number.invariant (sym c.is_other.ensures ∙ c.if-is_other.false)
