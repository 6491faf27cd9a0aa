use Rattle.std.proofs.Common.{◌≡◌, ◌++◌, drop}
use Rattle.c_core.specs.TreeView.{stmts_view, switch_view}
use Rattle.check_sequencing.specs.Bodies.{fulls_view, fulls_of_block}
use Rattle.check_sequencing.proofs.bodies.+statement.Given as goal

-- with what is left it becomes what the whole gives
abbrev pub invariant-push_block-loop-s : goal.invariant-push_block-loop-s
invariant-push_block-loop-s l =
    (fulls_view l.list.items ++ fulls_of_block (stmts_view (drop l.s-index l.body)) ≡ fulls_view l.initial.list.items ++ fulls_of_block (stmts_view l.body))

abbrev pub invariant-push_arms-loop-arm : goal.invariant-push_arms-loop-arm
invariant-push_arms-loop-arm l =
    (fulls_view l.list.items ++ fulls_of_block (switch_view (drop l.arm-index l.arms)) ≡ fulls_view l.initial.list.items ++ fulls_of_block (switch_view l.arms))
