use Rattle.std.proofs.Common.{◌≡◌, ◌++◌, drop}
use Rattle.c_core.specs.View.{switch_view, stmts_view}
use Rattle.view_products.specs.Products.{products_in}
use Rattle.way_places.specs.Sought.{each_in_block}
use Rattle.view_products.proofs.bodies.+statement.Given as goal

-- with what is left it becomes what the whole gives
abbrev pub invariant-push_block-loop-s : goal.invariant-push_block-loop-s
invariant-push_block-loop-s l =
    (l.list.items ++ each_in_block products_in (stmts_view (drop l.s-index l.body)) ≡ l.initial.list.items ++ each_in_block products_in (stmts_view l.body))

abbrev pub invariant-push_arms-loop-arm : goal.invariant-push_arms-loop-arm
invariant-push_arms-loop-arm l =
    (l.list.items ++ each_in_block products_in (switch_view (drop l.arm-index l.arms)) ≡ l.initial.list.items ++ each_in_block products_in (switch_view l.arms))
