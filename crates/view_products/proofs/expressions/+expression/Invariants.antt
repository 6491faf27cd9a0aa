use Rattle.std.proofs.Common.{◌≡◌, ◌++◌, drop}
use Rattle.c_core.specs.Parts.{exps_of_arguments}
use Rattle.c_core.specs.View.{exprs_view}
use Rattle.view_products.specs.Products.{products_among}
use Rattle.view_products.proofs.expressions.+expression.Given as goal

-- with what is left it becomes what the whole gives
abbrev pub invariant-push_arguments-loop-e : goal.invariant-push_arguments-loop-e
invariant-push_arguments-loop-e l =
    (l.list.items ++ products_among (exps_of_arguments (exprs_view (drop l.e-index l.es))) ≡ l.initial.list.items ++ products_among (exps_of_arguments (exprs_view l.es)))
