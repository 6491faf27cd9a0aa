use Rattle.std.proofs.Common.{◌≡◌, ◌++◌, drop}
use Rattle.c_core.specs.View.{functions_view}
use Rattle.way_places.specs.Seeking.{statements_of_functions}
use Rattle.way_places.specs.Switches.{tests_among}
use Rattle.way_places.proofs.tests.push_functions.Given as goal

-- with what is left it becomes what the whole gives
abbrev pub invariant-loop-function : goal.invariant-loop-function
invariant-loop-function l =
    (l.list.items ++ tests_among (statements_of_functions (functions_view (drop l.function-index l.functions))) ≡ l.initial.list.items ++ tests_among (statements_of_functions (functions_view l.functions)))
