use Rattle.std.proofs.Common.{◌≡◌, ◌+◌, ◌*◌, ◌++◌, drop, length}
use Rattle.c_core.specs.View.{program_view, form_view, stmt_view, stmts_view, switch_view}
use Rattle.run_state.specs.Interpreting.{else_part}
use Rattle.flow_code.specs.Statements.{block_code}
use Rattle.flow_code.proofs.Weights.{weight_of, weight_of_form, weight_of_else, weight_of_block}
use Rattle.flow_code.proofs.+statement.Given as goal

-- each part weighs less than the whole
abbrev pub decreases-statements::statement : goal.decreases-statements::statement
decreases-statements::statement l = 8 * weight_of (stmt_view l.s.now) + 0

abbrev pub decreases-statements::form : goal.decreases-statements::form
decreases-statements::form l = 8 * weight_of_form (form_view l.f.now) + 7

abbrev pub decreases-statements::block : goal.decreases-statements::block
decreases-statements::block l = 8 * weight_of_block (stmts_view l.body.now) + 3

abbrev pub decreases-statements::sequence : goal.decreases-statements::sequence
decreases-statements::sequence l = 8 * weight_of_block (stmts_view l.body.now) + 2

abbrev pub decreases-statements::arm : goal.decreases-statements::arm
decreases-statements::arm l = 8 * weight_of (stmt_view l.s.now) + 1

abbrev pub decreases-statements::choose : goal.decreases-statements::choose
decreases-statements::choose l = 8 * (weight_of (stmt_view l.yes.now) + weight_of_else (else_part l.no.now)) + 4

abbrev pub decreases-statements::otherwise : goal.decreases-statements::otherwise
decreases-statements::otherwise l = 8 * weight_of_else (else_part l.no.now) + 3

abbrev pub decreases-statements::second_arm : goal.decreases-statements::second_arm
decreases-statements::second_arm l = 8 * weight_of (stmt_view l.s.now) + 2

abbrev pub decreases-loops::while_loop : goal.decreases-loops::while_loop
decreases-loops::while_loop l = 8 * weight_of (stmt_view l.body.now) + 2

abbrev pub decreases-loops::do_loop : goal.decreases-loops::do_loop
decreases-loops::do_loop l = 8 * weight_of (stmt_view l.body.now) + 2

abbrev pub decreases-loops::for_loop : goal.decreases-loops::for_loop
decreases-loops::for_loop l = 8 * weight_of (stmt_view l.body.now) + 3

abbrev pub decreases-loops::turns : goal.decreases-loops::turns
decreases-loops::turns l = 8 * weight_of (stmt_view l.body.now) + 2

abbrev pub decreases-switches::switch : goal.decreases-switches::switch
decreases-switches::switch l = 8 * weight_of_block (switch_view l.arms.now) + 5

abbrev pub decreases-switches::selected_arms : goal.decreases-switches::selected_arms
decreases-switches::selected_arms l = 8 * weight_of_block (switch_view l.arms.now) + 4

abbrev pub decreases-switches::bodies : goal.decreases-switches::bodies
decreases-switches::bodies l = 8 * weight_of_block (switch_view l.arms.now) + 3

-- what is left does what the whole does
abbrev pub invariant-statements::sequence-loop-s : goal.invariant-statements::sequence-loop-s
invariant-statements::sequence-loop-s l =
    l.ops ++ block_code (program_view l.program) (length l.ops) l.inside (stmts_view (drop l.s-index l.body)) ≡ l.initial.ops ++ block_code (program_view l.program) (length l.initial.ops) l.inside (stmts_view l.body)

abbrev pub invariant-switches::bodies-loop-arm : goal.invariant-switches::bodies-loop-arm
invariant-switches::bodies-loop-arm l =
    l.ops ++ block_code (program_view l.program) (length l.ops) l.inside (switch_view (drop l.arm-index l.arms)) ≡ l.initial.ops ++ block_code (program_view l.program) (length l.initial.ops) l.inside (switch_view l.arms)
