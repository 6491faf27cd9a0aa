use Rattle.std.proofs.Common.{◌≡◌, ◌++◌, drop}
use Rattle.c_meaning.specs.Placing.{placed_view}
use Rattle.view_products.specs.Products.{products_of_invariants}
use Rattle.view_products.proofs.bodies.products_of_invariants.Given as goal

-- with what is left it becomes what the whole gives
abbrev pub invariant-loop-invariant : goal.invariant-loop-invariant
invariant-loop-invariant l =
    (l.list.items ++ products_of_invariants (placed_view (drop l.invariant-index l.invariants)) ≡ products_of_invariants (placed_view l.invariants))
