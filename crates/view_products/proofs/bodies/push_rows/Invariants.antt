use Rattle.std.proofs.Common.{◌≡◌, ◌++◌, drop}
use Rattle.std.specs.List.{flat_map}
use Rattle.c_core.specs.View.{rows_view}
use Rattle.view_products.specs.Products.{products_in}
use Rattle.way_places.specs.Sought.{each_in_list}
use Rattle.view_products.proofs.bodies.push_rows.Given as goal

-- with what is left it becomes what the whole gives
abbrev pub invariant-loop-row : goal.invariant-loop-row
invariant-loop-row l =
    (l.list.items ++ flat_map (each_in_list products_in) (rows_view (drop l.row-index l.rows)) ≡ l.initial.list.items ++ flat_map (each_in_list products_in) (rows_view l.rows))
