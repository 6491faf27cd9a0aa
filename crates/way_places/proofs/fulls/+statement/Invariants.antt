use Rattle.std.proofs.Common.{◌≡◌, ◌++◌, drop}
use Rattle.c_core.specs.View.{switch_view, stmts_view}
use Rattle.way_places.specs.Calls.{alone, fulls_view}
use Rattle.way_places.specs.Sought.{each_in_block}
use Rattle.way_places.proofs.fulls.+statement.Given as goal

-- with what is left it becomes what the whole gives
abbrev pub invariant-push_block-loop-s : goal.invariant-push_block-loop-s
invariant-push_block-loop-s l =
    (fulls_view l.list.items ++ each_in_block alone (stmts_view (drop l.s-index l.body)) ≡ fulls_view l.initial.list.items ++ each_in_block alone (stmts_view l.body))

abbrev pub invariant-push_arms-loop-arm : goal.invariant-push_arms-loop-arm
invariant-push_arms-loop-arm l =
    (fulls_view l.list.items ++ each_in_block alone (switch_view (drop l.arm-index l.arms)) ≡ fulls_view l.initial.list.items ++ each_in_block alone (switch_view l.arms))
