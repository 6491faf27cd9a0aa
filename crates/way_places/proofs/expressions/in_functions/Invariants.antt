use Rattle.std.proofs.Common.{◌≡◌, drop, None}
use Rattle.std.specs.Option.{option_copied}
use Rattle.c_core.specs.TreeView.{expr_view_if, functions_view}
use Rattle.way_places.specs.Seeking.{first_of, is_wanted}
use Rattle.way_places.specs.Sought.{each_in_functions, parts_of}
use Rattle.way_places.proofs.expressions.in_functions.Given as goal

-- with what is left it becomes what the whole gives
abbrev pub invariant-loop-function : goal.invariant-loop-function
invariant-loop-function l =
    (first_of (is_wanted l.wanted) (expr_view_if (option_copied l.first)) (each_in_functions (parts_of l.wanted) (functions_view (drop l.function-index l.functions)))
    ≡ first_of (is_wanted l.wanted) None (each_in_functions (parts_of l.wanted) (functions_view l.functions)))
