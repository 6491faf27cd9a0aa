use Rattle.std.proofs.Common.{◌≡◌, ◌++◌, drop}
use Rattle.c_core.specs.TreeView.{functions_view}
use Rattle.way_places.specs.Seeking.{places_of_functions}
use Rattle.way_places.proofs.listed.push_functions.Given as goal

-- with what is left it becomes what the whole gives
abbrev pub invariant-loop-function : goal.invariant-loop-function
invariant-loop-function l =
    (l.list.items ++ places_of_functions (functions_view (drop l.function-index l.functions)) ≡ l.initial.list.items ++ places_of_functions (functions_view l.functions))
