use Rattle.std.proofs.Common.{◌+◌, drop, ap, sym, ◌∙◌}
use Rattle.std.proofs.lemmas.List.{drop_all}
use Rattle.c_core.specs.View.{stmts_view, switch_view}
use Rattle.flow_code.specs.Sizes.{size_of_block}
use Rattle.flow_code.proofs.Arms.{default_from, default_here, default_later}
use Rattle.flow_code.proofs.switches.default_at.Goals as goal

pub returns-then-is_default : goal.returns-then-is_default
returns-then-is_default c =
    sym (default_here c.args.arms.now c.loop-arm.arm-index c.arm-item.result c.loop-arm-test.true c.arm-item.is c.args.depth c.loop-arm.to (sym c.is_default.ensures ∙ c.if-is_default.true))
    ∙ c.loop-arm.invariant

pub loop-arm-preserved : goal.loop-arm-preserved
loop-arm-preserved c =
    let d = c.args.depth in
    let rest = switch_view (drop (c.loop-arm.arm-index + 1) c.args.arms.now) in
    let next = c.in_ok-to.ensures ∙ ap (λ n. c.loop-arm.to + n) (c.in_ok-size.ensures ∙ ap (λ b. size_of_block d (stmts_view b)) c.as_slice.ensures) in
    ap (λ n. default_from d n rest) next
    ∙ sym (default_later c.args.arms.now c.loop-arm.arm-index c.arm-item.result c.loop-arm-test.true c.arm-item.is d c.loop-arm.to (sym c.is_default.ensures ∙ c.if-is_default.false))
    ∙ c.loop-arm.invariant

pub returns : goal.returns
returns c =
    sym (ap (λ xs. default_from c.args.depth c.loop-arm.to (switch_view xs)) (drop_all c.loop-arm.arm-index c.args.arms.now c.loop-arm-test.false)) ∙ c.loop-arm.invariant
