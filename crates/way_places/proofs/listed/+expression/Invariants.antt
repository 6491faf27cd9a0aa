use Rattle.std.proofs.Common.{◌≡◌, ◌++◌, drop}
use Rattle.c_core.specs.TreeView.{exprs_view}
use Rattle.c_core.specs.Places.{places_in_arguments}
use Rattle.way_places.proofs.listed.+expression.Given as goal

-- with what is left it becomes what the whole gives
abbrev pub invariant-push_arguments-loop-e : goal.invariant-push_arguments-loop-e
invariant-push_arguments-loop-e l =
    (l.list.items ++ places_in_arguments (exprs_view (drop l.e-index l.es)) ≡ l.initial.list.items ++ places_in_arguments (exprs_view l.es))
