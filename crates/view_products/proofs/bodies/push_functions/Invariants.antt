use Rattle.std.proofs.Common.{◌≡◌, ◌++◌, drop}
use Rattle.c_core.specs.TreeView.{functions_view}
use Rattle.view_products.specs.Products.{products_in}
use Rattle.way_places.specs.Sought.{each_in_functions}
use Rattle.view_products.proofs.bodies.push_functions.Given as goal

-- with what is left it becomes what the whole gives
abbrev pub invariant-loop-function : goal.invariant-loop-function
invariant-loop-function l =
    (l.list.items ++ each_in_functions products_in (functions_view (drop l.function-index l.functions)) ≡ l.initial.list.items ++ each_in_functions products_in (functions_view l.functions))
