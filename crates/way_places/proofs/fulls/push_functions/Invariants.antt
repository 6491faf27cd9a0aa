use Rattle.std.proofs.Common.{◌≡◌, ◌++◌, drop}
use Rattle.c_core.specs.TreeView.{functions_view}
use Rattle.way_places.specs.Calls.{alone, fulls_view}
use Rattle.way_places.specs.Sought.{each_in_functions}
use Rattle.way_places.proofs.fulls.push_functions.Given as goal

-- with what is left it becomes what the whole gives
abbrev pub invariant-loop-function : goal.invariant-loop-function
invariant-loop-function l =
    (fulls_view l.list.items ++ each_in_functions alone (functions_view (drop l.function-index l.functions)) ≡ fulls_view l.initial.list.items ++ each_in_functions alone (functions_view l.functions))
