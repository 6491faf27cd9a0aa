use Rattle.std.proofs.Common.{◌≡◌, drop, None}
use Rattle.std.specs.Option.{option_copied, option_map}
use Rattle.c_core.specs.TreeView.{functions_view, stmt_view}
use Rattle.way_places.specs.Seeking.{before_of, statements_of_functions}
use Rattle.way_places.proofs.before.in_functions.Given as goal

-- with what is left it becomes what the whole gives
abbrev pub invariant-loop-function : goal.invariant-loop-function
invariant-loop-function l =
    (before_of l.spot (option_map stmt_view (option_copied l.first)) (statements_of_functions (functions_view (drop l.function-index l.functions)))
    ≡ before_of l.spot None (statements_of_functions (functions_view l.functions)))
