use Rattle.std.proofs.Common.{◌≡◌, ◌+◌, ap, sym, ◌∙◌, drop}
use Rattle.std.specs.Option.{option_copied, option_map}
use Rattle.c_core.specs.View.{form_view, stmt_view, stmts_view, switch_view, expr_view}
use Rattle.c_core.specs.Tree.{Block, Switch}
use Rattle.c_core.specs.Parts.{statements_of, statements_of_block, statements_of_form}
use Rattle.c_core.proofs.View.{view_of_block, view_of_switch}
use Rattle.c_calls.specs.Loops.{first_loop}
use Rattle.c_core.specs.declared.tree.Arm.{out-Arm}
use Rattle.c_calls.proofs.ArmLaws.{statements_from}
use Rattle.c_core.proofs.ArmLaws.{item_first}
use Rattle.c_calls.proofs.LoopLaws.{first_loop_both}
use Rattle.c_calls.proofs.loops.+statement.Goals as goal

pub block-loop-s-preserved : goal.block-loop-s-preserved
block-loop-s-preserved t c =
    ap (λ b. first_loop c.args.spot b (statements_of_block (stmts_view (drop (c.loop-s.s-index + 1) c.args.body.now)))) c.statement-first.ensures
    ∙ sym (first_loop_both c.args.spot (option_map form_view (option_copied c.loop-s.first)) (statements_of (stmt_view c.s-item.result)) (statements_of_block (stmts_view (drop (c.loop-s.s-index + 1) c.args.body.now))))
    ∙ sym (ap (λ xs. first_loop c.args.spot (option_map form_view (option_copied c.loop-s.first)) (statements_of_block (stmts_view xs))) (item_first c.args.body.now c.loop-s.s-index c.s-item.result c.loop-s-test.true c.s-item.is))
    ∙ c.loop-s.invariant

pub inside-returns-in-Block : goal.inside-returns-in-Block
inside-returns-in-Block t c =
    let e : form_view c.args.form.now ≡ Block (stmts_view c.in-Block.body) = ap form_view c.in-Block.is ∙ view_of_block c.in-Block.body in
    c.block.ensures
    ∙ ap (λ ss. first_loop c.args.spot (option_map form_view (option_copied c.args.found)) (statements_of_block (stmts_view ss))) c.as_slice.ensures
    ∙ sym (ap (λ f. first_loop c.args.spot (option_map form_view (option_copied c.args.found)) (statements_of_form f)) e)

pub inside-returns-in-Switch : goal.inside-returns-in-Switch
inside-returns-in-Switch t c =
    let e : form_view c.args.form.now ≡ Switch (expr_view c.in-Switch.test) (switch_view c.in-Switch.arms) = ap form_view c.in-Switch.is ∙ view_of_switch c.in-Switch.test c.in-Switch.arms in
    c.in_arms.ensures
    ∙ ap (λ ss. first_loop c.args.spot (option_map form_view (option_copied c.args.found)) (statements_of_block (switch_view ss))) c.as_slice-in-Switch.ensures
    ∙ sym (ap (λ f. first_loop c.args.spot (option_map form_view (option_copied c.args.found)) (statements_of_form f)) e)

pub in_arms-loop-arm-preserved : goal.in_arms-loop-arm-preserved
in_arms-loop-arm-preserved t c =
    let rest = statements_of_block (switch_view (drop (c.loop-arm.arm-index + 1) c.args.arms.now)) in
    let found = option_map form_view (option_copied c.loop-arm.first) in
    ap (λ b. first_loop c.args.spot b rest) (c.block-first.ensures ∙ ap (λ ss. first_loop c.args.spot found (statements_of_block (stmts_view ss))) c.as_slice.ensures)
    ∙ sym (first_loop_both c.args.spot found (statements_of_block (stmts_view (out-Arm c.arm-item.result).body)) rest)
    ∙ sym (ap (λ xs. first_loop c.args.spot found xs) (statements_from c.args.arms.now c.loop-arm.arm-index c.arm-item.result c.loop-arm-test.true c.arm-item.is))
    ∙ c.loop-arm.invariant
