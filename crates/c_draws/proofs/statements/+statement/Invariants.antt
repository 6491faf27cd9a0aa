use Rattle.std.proofs.Common.{◌≡◌, ◌++◌, drop}
use Rattle.c_core.specs.View.{program_view, stmts_view, switch_view}
use Rattle.c_draws.specs.Drawing.{draws_of_block}
use Rattle.c_draws.proofs.statements.+statement.Given as goal

-- with what is left it becomes what the whole gives
abbrev pub invariant-push_block-loop-s : goal.invariant-push_block-loop-s
invariant-push_block-loop-s l =
    (l.list.items ++ draws_of_block (program_view l.program) (stmts_view (drop l.s-index l.body)) ≡ l.initial.list.items ++ draws_of_block (program_view l.program) (stmts_view l.body))

abbrev pub invariant-push_arms-loop-arm : goal.invariant-push_arms-loop-arm
invariant-push_arms-loop-arm l =
    (l.list.items ++ draws_of_block (program_view l.program) (switch_view (drop l.arm-index l.arms)) ≡ l.initial.list.items ++ draws_of_block (program_view l.program) (switch_view l.arms))
