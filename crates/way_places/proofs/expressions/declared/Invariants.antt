use Rattle.std.proofs.Common.{◌≡◌, drop}
use Rattle.std.specs.Option.{option_copied}
use Rattle.c_core.specs.TreeView.{expr_view_if, names_view}
use Rattle.way_places.specs.Seeking.{first_of, is_wanted}
use Rattle.way_places.specs.Sought.{each_in_names, parts_of}
use Rattle.way_places.proofs.expressions.declared.Given as goal

-- with what is left it becomes what the whole gives
abbrev pub invariant-loop-name : goal.invariant-loop-name
invariant-loop-name l =
    (first_of (is_wanted l.wanted) (expr_view_if (option_copied l.first)) (each_in_names (parts_of l.wanted) (names_view (drop l.name-index l.names)))
    ≡ first_of (is_wanted l.wanted) (expr_view_if (option_copied l.initial.first)) (each_in_names (parts_of l.wanted) (names_view l.names)))
