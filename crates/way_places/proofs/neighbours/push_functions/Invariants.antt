use Rattle.std.proofs.Common.{◌≡◌, ◌++◌, drop}
use Rattle.c_core.specs.TreeView.{functions_view}
use Rattle.way_places.specs.Neighbours.{among, pairs_view}
use Rattle.way_places.specs.Seeking.{statements_of_functions}
use Rattle.way_places.proofs.neighbours.push_functions.Given as goal

-- with what is left it becomes what the whole gives
abbrev pub invariant-loop-function : goal.invariant-loop-function
invariant-loop-function l =
    (pairs_view l.list.items ++ among (statements_of_functions (functions_view (drop l.function-index l.functions))) ≡ pairs_view l.initial.list.items ++ among (statements_of_functions (functions_view l.functions)))
