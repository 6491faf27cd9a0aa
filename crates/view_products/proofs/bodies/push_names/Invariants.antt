use Rattle.std.proofs.Common.{◌≡◌, ◌++◌, drop}
use Rattle.c_core.specs.TreeView.{names_view}
use Rattle.view_products.specs.Products.{products_in}
use Rattle.way_places.specs.Sought.{each_in_names}
use Rattle.view_products.proofs.bodies.push_names.Given as goal

-- with what is left it becomes what the whole gives
abbrev pub invariant-loop-name : goal.invariant-loop-name
invariant-loop-name l =
    (l.list.items ++ each_in_names products_in (names_view (drop l.name-index l.names)) ≡ l.initial.list.items ++ each_in_names products_in (names_view l.names))
