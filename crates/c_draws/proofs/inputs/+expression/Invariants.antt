use Rattle.std.proofs.Common.{◌≡◌, ◌++◌, drop}
use Rattle.c_core.specs.TreeView.{exprs_view}
use Rattle.c_draws.specs.Drawing.{inputs_of_arguments}
use Rattle.c_draws.proofs.inputs.+expression.Given as goal

-- with what is left it becomes what the whole gives
abbrev pub invariant-push_arguments-loop-e : goal.invariant-push_arguments-loop-e
invariant-push_arguments-loop-e l =
    (l.list.items ++ inputs_of_arguments (exprs_view (drop l.e-index l.es)) ≡ l.initial.list.items ++ inputs_of_arguments (exprs_view l.es))
