use Rattle.std.proofs.Common.{◌+◌, ap, sym, ◌∙◌, drop}
use Rattle.std.specs.Option.{option_copied, option_map}
use Rattle.c_core.specs.Places.{before_in}
use Rattle.c_core.specs.View.{stmt_view, stmts_view, switch_view}
use Rattle.way_places.specs.Seeking.{or_else}
use Rattle.way_places.proofs.ArmLaws.{before_from}
use Rattle.way_places.proofs.before.before_in_arms.Goals as goal

pub returns-in-Some : goal.returns-in-Some
returns-in-Some c =
    let rest = before_in c.args.spot (switch_view (drop (c.loop-arm.arm-index + 1) c.args.arms.now)) in
    ap (λ o. or_else (option_map stmt_view (option_copied o)) rest) (sym c.in-Some.is)
    ∙ ap (λ o. or_else o rest) (c.directly_before.ensures ∙ ap (λ ss. before_in c.args.spot (stmts_view ss)) c.as_slice.ensures)
    ∙ sym (before_from c.args.arms.now c.loop-arm.arm-index c.arm-item.result c.loop-arm-test.true c.arm-item.is c.args.spot)
    ∙ c.loop-arm.invariant

pub loop-arm-preserved : goal.loop-arm-preserved
loop-arm-preserved c =
    let rest = before_in c.args.spot (switch_view (drop (c.loop-arm.arm-index + 1) c.args.arms.now)) in
    ap (λ o. or_else (option_map stmt_view (option_copied o)) rest) (sym c.in_default.is)
    ∙ ap (λ o. or_else o rest) (c.directly_before.ensures ∙ ap (λ ss. before_in c.args.spot (stmts_view ss)) c.as_slice.ensures)
    ∙ sym (before_from c.args.arms.now c.loop-arm.arm-index c.arm-item.result c.loop-arm-test.true c.arm-item.is c.args.spot)
    ∙ c.loop-arm.invariant
