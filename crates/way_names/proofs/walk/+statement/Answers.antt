use Rattle.std.proofs.Common.{◌≡◌, ◌+◌, ap, sym, ◌∙◌, drop}
use Rattle.c_core.specs.Tree.{Block, Switch}
use Rattle.c_core.specs.View.{expr_view, form_view, stmts_view, switch_view}
use Rattle.c_core.proofs.View.{view_of_block, view_of_switch}
use Rattle.way_names.specs.Walk.{scope_behind, walk_view, walked_block, walked_form}
use Rattle.way_names.proofs.ArmLaws.{walked_from}
use Rattle.way_names.proofs.walk.+statement.Goals as goal

pub inside-returns-in_ok-block-in-Block : goal.inside-returns-in_ok-block-in-Block
inside-returns-in_ok-block-in-Block t c =
    let e : form_view c.args.form.now ≡ Block (stmts_view c.in-Block.body) = ap form_view c.in-Block.is ∙ view_of_block c.in-Block.body in
    c.in_ok-block-in-Block.ensures.walk
    ∙ ap (λ ss. walked_block (walk_view c.args.walk.now) c.args.scope (stmts_view ss)) c.as_slice.ensures
    ∙ sym (ap (λ f. walked_form (walk_view c.args.walk.now) c.args.scope f) e)

pub inside-returns-in_ok-in_arms-in-Switch : goal.inside-returns-in_ok-in_arms-in-Switch
inside-returns-in_ok-in_arms-in-Switch t c =
    let e : form_view c.args.form.now ≡ Switch (expr_view c.in-Switch.test) (switch_view c.in-Switch.arms) = ap form_view c.in-Switch.is ∙ view_of_switch c.in-Switch.test c.in-Switch.arms in
    c.in_ok-in_arms-in-Switch.ensures
    ∙ ap (λ ss. walked_block (walk_view c.args.walk.now) c.args.scope (switch_view ss)) c.as_slice-in-Switch.ensures
    ∙ sym (ap (λ f. walked_form (walk_view c.args.walk.now) c.args.scope f) e)

pub in_arms-loop-arm-preserved : goal.in_arms-loop-arm-preserved
in_arms-loop-arm-preserved t c =
    let v = walk_view c.loop-arm.walk in
    let rest = switch_view (drop (c.loop-arm.arm-index + 1) c.args.arms.now) in
    ap (λ w. walked_block w c.in_ok-scope.scope rest) c.in_ok-scope.ensures.walk
    ∙ ap (λ s. walked_block (walked_block v c.loop-arm.scope (stmts_view c.as_slice.result.now)) s rest) c.in_ok-scope.ensures.scope
    ∙ ap (λ ss. walked_block (walked_block v c.loop-arm.scope (stmts_view ss)) (scope_behind v c.loop-arm.scope (stmts_view ss)) rest) c.as_slice.ensures
    ∙ sym (walked_from v c.loop-arm.scope c.args.arms.now c.loop-arm.arm-index c.arm-item.result c.loop-arm-test.true c.arm-item.is)
    ∙ c.loop-arm.invariant
