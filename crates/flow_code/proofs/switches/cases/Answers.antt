use Rattle.std.proofs.Common.{◌+◌, drop, ap, ap₂, sym, ◌∙◌}
use Rattle.std.proofs.lemmas.List.{drop_all}
use Rattle.c_core.specs.View.{stmts_view, switch_view}
use Rattle.flow_code.specs.Sizes.{size_of_block}
use Rattle.flow_code.specs.Statements.{with_cases}
use Rattle.flow_code.proofs.Arms.{cases_from}
use Rattle.flow_code.proofs.switches.cases.Goals as goal

pub loop-arm-init : goal.loop-arm-init
loop-arm-init c = ap (λ t. with_cases t c.args.depth c.args.start (switch_view c.args.arms.now)) c.new-table.ensures

pub loop-arm-preserved : goal.loop-arm-preserved
loop-arm-preserved c =
    let d = c.args.depth in
    let to = c.loop-arm.to in
    let rest = switch_view (drop (c.loop-arm.arm-index + 1) c.args.arms.now) in
    let next = c.in_ok-to.ensures ∙ ap (λ n. to + n) (c.in_ok-size.ensures ∙ ap (λ b. size_of_block d (stmts_view b)) c.as_slice.ensures) in
    ap₂ (λ t n. with_cases t d n rest) c.in_ok-case.ensures next
    ∙ sym (cases_from c.args.arms.now c.loop-arm.arm-index c.arm-item.result c.loop-arm-test.true c.arm-item.is c.loop-arm.table d to)
    ∙ c.loop-arm.invariant

pub returns : goal.returns
returns c =
    ap (λ xs. with_cases c.loop-arm.table c.args.depth c.loop-arm.to (switch_view xs)) (sym (drop_all c.loop-arm.arm-index c.args.arms.now c.loop-arm-test.false))
    ∙ c.loop-arm.invariant
