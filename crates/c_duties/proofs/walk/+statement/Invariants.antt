use Rattle.std.proofs.Common.{◌≡◌, ◌++◌, drop}
use Rattle.c_core.specs.TreeView.{stmts_view}
use Rattle.c_core.specs.View.{program_view, switch_view}
use Rattle.c_meaning.specs.Duties.{property_duties}
use Rattle.c_meaning.specs.Parts.{fulls_of_block}
use Rattle.c_duties.proofs.walk.+statement.Given as goal

-- with what is left it becomes what the whole gives
abbrev pub invariant-push_block-loop-s : goal.invariant-push_block-loop-s
invariant-push_block-loop-s l =
    (l.list.items ++ property_duties (program_view l.program) (fulls_of_block (stmts_view (drop l.s-index l.body))) ≡ l.initial.list.items ++ property_duties (program_view l.program) (fulls_of_block (stmts_view l.body)))

abbrev pub invariant-push_arms-loop-arm : goal.invariant-push_arms-loop-arm
invariant-push_arms-loop-arm l =
    (l.list.items ++ property_duties (program_view l.program) (fulls_of_block (switch_view (drop l.arm-index l.arms))) ≡ l.initial.list.items ++ property_duties (program_view l.program) (fulls_of_block (switch_view l.arms)))
