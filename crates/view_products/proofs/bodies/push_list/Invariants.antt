use Rattle.std.proofs.Common.{◌≡◌, ◌++◌, drop}
use Rattle.c_core.specs.TreeView.{exprs_view}
use Rattle.view_products.specs.Products.{products_in}
use Rattle.way_places.specs.Sought.{each_in_list}
use Rattle.view_products.proofs.bodies.push_list.Given as goal

-- with what is left it becomes what the whole gives
abbrev pub invariant-loop-e : goal.invariant-loop-e
invariant-loop-e l =
    (l.list.items ++ each_in_list products_in (exprs_view (drop l.e-index l.es)) ≡ l.initial.list.items ++ each_in_list products_in (exprs_view l.es))
