use Rattle.std.proofs.Common.{◌≡◌, ◌+◌, ◌*◌, drop}
use Rattle.c_core.specs.View.{form_view, stmt_view, stmts_view, switch_view}
use Rattle.run_state.specs.Interpreting.{else_part}
use Rattle.flow_code.specs.Sizes.{size_of_block}
use Rattle.flow_code.proofs.Weights.{weight_of, weight_of_form, weight_of_else, weight_of_block}
use Rattle.flow_code.proofs.sizes.+size_of_statement.Given as goal

-- each part weighs less than the whole
abbrev pub decreases-size_of_statement : goal.decreases-size_of_statement
decreases-size_of_statement l = 8 * weight_of (stmt_view l.s.now) + 0

abbrev pub decreases-size_of_form : goal.decreases-size_of_form
decreases-size_of_form l = 8 * weight_of_form (form_view l.form.now) + 7

abbrev pub decreases-size_of_arm : goal.decreases-size_of_arm
decreases-size_of_arm l = 8 * weight_of (stmt_view l.s.now) + 1

abbrev pub decreases-size_of_choice : goal.decreases-size_of_choice
decreases-size_of_choice l = 8 * (weight_of (stmt_view l.yes.now) + weight_of_else (else_part l.no.now)) + 3

abbrev pub decreases-size_of_else : goal.decreases-size_of_else
decreases-size_of_else l = 8 * weight_of_else (else_part l.no.now) + 2

abbrev pub decreases-size_of_loop : goal.decreases-size_of_loop
decreases-size_of_loop l = 8 * weight_of (stmt_view l.body.now) + 2

abbrev pub decreases-size_of_block : goal.decreases-size_of_block
decreases-size_of_block l = 8 * weight_of_block (stmts_view l.body.now) + 3

abbrev pub decreases-size_of_statements : goal.decreases-size_of_statements
decreases-size_of_statements l = 8 * weight_of_block (stmts_view l.body.now) + 2

abbrev pub decreases-size_of_switch : goal.decreases-size_of_switch
decreases-size_of_switch l = 8 * weight_of_block (switch_view l.arms.now) + 5

abbrev pub decreases-size_of_arms : goal.decreases-size_of_arms
decreases-size_of_arms l = 8 * weight_of_block (switch_view l.arms.now) + 4

abbrev pub decreases-size_of_bodies : goal.decreases-size_of_bodies
decreases-size_of_bodies l = 8 * weight_of_block (switch_view l.arms.now) + 3

abbrev pub decreases-size_of_for : goal.decreases-size_of_for
decreases-size_of_for l = 8 * weight_of (stmt_view l.body.now) + 2

-- with what is left it becomes the whole
abbrev pub invariant-size_of_statements-loop-s : goal.invariant-size_of_statements-loop-s
invariant-size_of_statements-loop-s l = l.sum + size_of_block l.depth (stmts_view (drop l.s-index l.body)) ≡ size_of_block l.depth (stmts_view l.body)

abbrev pub invariant-size_of_bodies-loop-arm : goal.invariant-size_of_bodies-loop-arm
invariant-size_of_bodies-loop-arm l = l.sum + size_of_block l.depth (switch_view (drop l.arm-index l.arms)) ≡ size_of_block l.depth (switch_view l.arms)
