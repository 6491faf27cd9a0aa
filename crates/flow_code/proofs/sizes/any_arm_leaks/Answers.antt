use Rattle.std.proofs.Common.{ap, sym, ◌∙◌}
use Rattle.std.proofs.lemmas.List.{drop_all}
use Rattle.c_core.specs.View.{stmts_view, switch_view}
use Rattle.flow_code.specs.Sizes.{any_leaks}
use Rattle.flow_code.proofs.Arms.{leaks_here, leaks_later}
use Rattle.flow_code.proofs.sizes.any_arm_leaks.Goals as goal

pub loop-arm-preserved : goal.loop-arm-preserved
loop-arm-preserved c =
    let e = ap (λ b. any_leaks (stmts_view b)) (sym c.as_slice.ensures) ∙ sym c.any_leaks.ensures ∙ c.if-any_leaks.false in
    sym (leaks_later c.args.arms.now c.loop-arm.arm-index c.arm-item.result c.loop-arm-test.true c.arm-item.is e) ∙ c.loop-arm.invariant

pub returns-then-any_leaks : goal.returns-then-any_leaks
returns-then-any_leaks c =
    let e = ap (λ b. any_leaks (stmts_view b)) (sym c.as_slice.ensures) ∙ sym c.any_leaks.ensures ∙ c.if-any_leaks.true in
    sym (leaks_here c.args.arms.now c.loop-arm.arm-index c.arm-item.result c.loop-arm-test.true c.arm-item.is e) ∙ c.loop-arm.invariant

pub returns : goal.returns
returns c = sym (ap (λ b. any_leaks (switch_view b)) (drop_all c.loop-arm.arm-index c.args.arms.now c.loop-arm-test.false)) ∙ c.loop-arm.invariant
