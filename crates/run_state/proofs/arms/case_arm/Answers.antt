use Rattle.std.proofs.Common.{rules, ◌<◌, ◌∙◌, length, sym, arith}
use mir.Val.{SFits}
use mir.Syntax.{w128}
use Rattle.std.proofs.lemmas.Int.{to_z-of_z}
use Rattle.c_meaning.specs.Run.{is_case}
use Rattle.run_state.proofs.Choosing.{none_yet, found_any, found_first}
use Rattle.run_state.proofs.arms.case_arm.Goals as goal

pub returns-then-has_constant : goal.returns-then-has_constant
returns-then-has_constant c =
    let h : c.loop-number.number < length c.args.arms.now = omega arith in
    let z : SFits w128 c.args.value = search rules in
    let b = rw (to_z-of_z w128 c.args.value z) at c.loop-number.invariant in
    let t = sym (rw (to_z-of_z w128 c.args.value z) at c.has_constant.ensures) ∙ c.if-has_constant.true in
    record {
      any = found_any (is_case c.args.value) c.args.arms.now c.loop-number.number c.index-arms-number.result h c.index-arms-number.is b t;
      first = found_first (is_case c.args.value) c.args.arms.now c.loop-number.number c.index-arms-number.result h c.index-arms-number.is b t;
    }

pub loop-number-preserved : goal.loop-number-preserved
loop-number-preserved c =
    let h : c.loop-number.number < length c.args.arms.now = omega arith in
    let z : SFits w128 c.args.value = search rules in
    let b = rw (to_z-of_z w128 c.args.value z) at c.loop-number.invariant in
    let t = sym (rw (to_z-of_z w128 c.args.value z) at c.has_constant.ensures) ∙ c.if-has_constant.false in
    rw (to_z-of_z w128 c.args.value z) (none_yet (is_case c.args.value) c.args.arms.now c.loop-number.number c.index-arms-number.result h c.index-arms-number.is b t)
