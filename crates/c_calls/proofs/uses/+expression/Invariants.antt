use Rattle.std.proofs.Common.{◌≡◌, ◌++◌, drop}
use Rattle.c_core.specs.TreeView.{exprs_view}
use Rattle.c_calls.specs.Uses.{uses_of_arguments}
use Rattle.c_calls.proofs.uses.+expression.Given as goal

-- with what is left it becomes what the whole gives
abbrev pub invariant-push_arguments-loop-e : goal.invariant-push_arguments-loop-e
invariant-push_arguments-loop-e l =
    (l.uses.items ++ uses_of_arguments (exprs_view (drop l.e-index l.es)) ≡ l.initial.uses.items ++ uses_of_arguments (exprs_view l.es))
