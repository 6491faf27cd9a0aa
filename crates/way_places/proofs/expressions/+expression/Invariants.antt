use Rattle.std.proofs.Common.{◌≡◌, drop}
use Rattle.std.specs.Option.{option_copied}
use Rattle.c_core.specs.TreeView.{expr_view_if, exprs_view}
use Rattle.c_core.specs.Parts.{exps_of_arguments}
use Rattle.way_places.specs.Seeking.{first_of, is_wanted}
use Rattle.way_places.proofs.expressions.+expression.Given as goal

-- with what is left it becomes what the whole gives
abbrev pub invariant-arguments-loop-e : goal.invariant-arguments-loop-e
invariant-arguments-loop-e l =
    (first_of (is_wanted l.wanted) (expr_view_if (option_copied l.first)) (exps_of_arguments (exprs_view (drop l.e-index l.es)))
    ≡ first_of (is_wanted l.wanted) (expr_view_if (option_copied l.initial.first)) (exps_of_arguments (exprs_view l.es)))
