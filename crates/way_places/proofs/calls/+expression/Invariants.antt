use Rattle.std.proofs.Common.{◌≡◌, ◌++◌, drop}
use Rattle.c_core.specs.TreeView.{exprs_view}
use Rattle.way_places.specs.Calls.{calls_in_arguments, ends_view}
use Rattle.way_places.proofs.calls.+expression.Given as goal

-- with what is left it becomes what the whole gives
abbrev pub invariant-push_arguments-loop-e : goal.invariant-push_arguments-loop-e
invariant-push_arguments-loop-e l =
    (ends_view l.list.items ++ calls_in_arguments (exprs_view (drop l.e-index l.es)) ≡ ends_view l.initial.list.items ++ calls_in_arguments (exprs_view l.es))
