use Rattle.std.proofs.Common.{◌≡◌, drop}
use Rattle.std.specs.Option.{option_copied}
use Rattle.c_core.specs.TreeView.{expr_view_if, exprs_view}
use Rattle.way_places.specs.Seeking.{first_of, is_wanted}
use Rattle.way_places.specs.Sought.{each_in_list, parts_of}
use Rattle.way_places.proofs.expressions.listed.Given as goal

-- with what is left it becomes what the whole gives
abbrev pub invariant-loop-e : goal.invariant-loop-e
invariant-loop-e l =
    (first_of (is_wanted l.wanted) (expr_view_if (option_copied l.first)) (each_in_list (parts_of l.wanted) (exprs_view (drop l.e-index l.es)))
    ≡ first_of (is_wanted l.wanted) (expr_view_if (option_copied l.initial.first)) (each_in_list (parts_of l.wanted) (exprs_view l.es)))
