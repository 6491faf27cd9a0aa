use Rattle.std.proofs.Common.{◌≡◌, drop, None}
use Rattle.c_core.specs.View.{functions_view}
use Rattle.way_places.specs.Seeking.{statements_of_functions, type_from}
use Rattle.way_places.proofs.switches.in_functions.Given as goal

-- with what is left it becomes what the whole gives
abbrev pub invariant-loop-function : goal.invariant-loop-function
invariant-loop-function l =
    (type_from l.spot l.first (statements_of_functions (functions_view (drop l.function-index l.functions))) ≡ type_from l.spot None (statements_of_functions (functions_view l.functions)))
