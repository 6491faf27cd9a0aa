use Rattle.std.proofs.Common.{◌≡◌, ◌++◌, drop}
use Rattle.c_core.specs.TreeView.{exprs_view}
use Rattle.way_places.specs.Calls.{alone, fulls_view}
use Rattle.way_places.specs.Sought.{each_in_list}
use Rattle.way_places.proofs.fulls.push_list.Given as goal

-- with what is left it becomes what the whole gives
abbrev pub invariant-loop-e : goal.invariant-loop-e
invariant-loop-e l =
    (fulls_view l.list.items ++ each_in_list alone (exprs_view (drop l.e-index l.es)) ≡ fulls_view l.initial.list.items ++ each_in_list alone (exprs_view l.es))
