use Rattle.std.proofs.Common.{◌≡◌, ◌++◌, drop}
use Rattle.std.specs.Option.{option_copied, option_map}
use Rattle.c_core.specs.TreeView.{stmt_view, stmts_view}
use Rattle.way_places.specs.Neighbours.{pairs_behind, pairs_in, pairs_view}
use Rattle.way_places.proofs.neighbours.push_pairs.Given as goal

-- with what is left, behind the last statement, it becomes what the whole gives
abbrev pub invariant-loop-s : goal.invariant-loop-s
invariant-loop-s l =
    (pairs_view l.list.items ++ pairs_behind (option_map stmt_view (option_copied l.last)) (stmts_view (drop l.s-index l.body)) ≡ pairs_view l.initial.list.items ++ pairs_in (stmts_view l.body))
