use Rattle.std.proofs.Common.{◌≡◌, ◌+◌, ap, sym, ◌∙◌, drop}
use Rattle.std.specs.Option.{option_copied}
use Rattle.c_core.specs.Tree.{Block, Switch}
use Rattle.c_core.specs.View.{expr_view, stmts_view, switch_view, expr_view_if, form_view, stmt_view}
use Rattle.c_core.specs.declared.tree.Arm.{out-Arm}
use Rattle.c_core.proofs.ArmLaws.{item_first}
use Rattle.c_core.proofs.View.{view_of_block, view_of_switch}
use Rattle.way_places.specs.Seeking.{first_of, is_wanted}
use Rattle.way_places.specs.Sought.{each_in, each_in_block, each_in_form, parts_of}
use Rattle.way_places.proofs.ArmLaws.{each_from}
use Rattle.way_places.proofs.SeekingLaws.{first_of_both}
use Rattle.way_places.proofs.expressions.+statement.Goals as goal

pub block-loop-s-preserved : goal.block-loop-s-preserved
block-loop-s-preserved t c =
    ap (λ b. first_of (is_wanted c.args.wanted) b (each_in_block (parts_of c.args.wanted) (stmts_view (drop (c.loop-s.s-index + 1) c.args.body.now)))) c.statement-first.ensures
    ∙ sym (first_of_both (is_wanted c.args.wanted) (expr_view_if (option_copied c.loop-s.first)) (each_in (parts_of c.args.wanted) (stmt_view c.s-item.result)) (each_in_block (parts_of c.args.wanted) (stmts_view (drop (c.loop-s.s-index + 1) c.args.body.now))))
    ∙ sym (ap (λ xs. first_of (is_wanted c.args.wanted) (expr_view_if (option_copied c.loop-s.first)) (each_in_block (parts_of c.args.wanted) (stmts_view xs))) (item_first c.args.body.now c.loop-s.s-index c.s-item.result c.loop-s-test.true c.s-item.is))
    ∙ c.loop-s.invariant

pub inside-returns-in-Block : goal.inside-returns-in-Block
inside-returns-in-Block t c =
    let e : form_view c.args.form.now ≡ Block (stmts_view c.in-Block.body) = ap form_view c.in-Block.is ∙ view_of_block c.in-Block.body in
    c.block.ensures
    ∙ ap (λ ss. first_of (is_wanted c.args.wanted) (expr_view_if (option_copied c.args.found)) (each_in_block (parts_of c.args.wanted) (stmts_view ss))) c.as_slice-in-Block.ensures
    ∙ sym (ap (λ f. first_of (is_wanted c.args.wanted) (expr_view_if (option_copied c.args.found)) (each_in_form (parts_of c.args.wanted) f)) e)

pub in_arms-loop-arm-preserved : goal.in_arms-loop-arm-preserved
in_arms-loop-arm-preserved t c =
    let found = expr_view_if (option_copied c.loop-arm.first) in
    let rest = each_in_block (parts_of c.args.wanted) (switch_view (drop (c.loop-arm.arm-index + 1) c.args.arms.now)) in
    let body = each_in_block (parts_of c.args.wanted) (stmts_view (out-Arm c.arm-item.result).body) in
    ap (λ b. first_of (is_wanted c.args.wanted) b rest) (c.block-first.ensures ∙ ap (λ ss. first_of (is_wanted c.args.wanted) found (each_in_block (parts_of c.args.wanted) (stmts_view ss))) c.as_slice.ensures)
    ∙ sym (first_of_both (is_wanted c.args.wanted) found body rest)
    ∙ sym (ap (λ xs. first_of (is_wanted c.args.wanted) found xs) (each_from c.args.arms.now c.loop-arm.arm-index c.arm-item.result c.loop-arm-test.true c.arm-item.is (parts_of c.args.wanted)))
    ∙ c.loop-arm.invariant

pub inside-returns-in-Switch : goal.inside-returns-in-Switch
inside-returns-in-Switch t c =
    let e : form_view c.args.form.now ≡ Switch (expr_view c.in-Switch.test) (switch_view c.in-Switch.arms) = ap form_view c.in-Switch.is ∙ view_of_switch c.in-Switch.test c.in-Switch.arms in
    let found = expr_view_if (option_copied c.args.found) in
    let arms = each_in_block (parts_of c.args.wanted) (switch_view c.in-Switch.arms) in
    c.in_arms.ensures
    ∙ ap (λ ss. first_of (is_wanted c.args.wanted) (expr_view_if (option_copied c.full-found-in-Switch.result)) (each_in_block (parts_of c.args.wanted) (switch_view ss))) c.as_slice-in-Switch.ensures
    ∙ ap (λ b. first_of (is_wanted c.args.wanted) b arms) c.full-found-in-Switch.ensures
    ∙ sym (first_of_both (is_wanted c.args.wanted) found (parts_of c.args.wanted (expr_view c.in-Switch.test)) arms)
    ∙ sym (ap (λ f. first_of (is_wanted c.args.wanted) found (each_in_form (parts_of c.args.wanted) f)) e)
