use Rattle.std.proofs.Common.{◌≡◌, drop}
use Rattle.std.specs.List.{flat_map}
use Rattle.std.specs.Option.{option_copied}
use Rattle.c_core.specs.View.{expr_view_if, rows_view}
use Rattle.way_places.specs.Seeking.{first_of, is_wanted}
use Rattle.way_places.specs.Sought.{each_in_list, parts_of}
use Rattle.way_places.proofs.expressions.in_rows.Given as goal

-- with what is left it becomes what the whole gives
abbrev pub invariant-loop-row : goal.invariant-loop-row
invariant-loop-row l =
    (first_of (is_wanted l.wanted) (expr_view_if (option_copied l.first)) (flat_map (each_in_list (parts_of l.wanted)) (rows_view (drop l.row-index l.rows)))
    ≡ first_of (is_wanted l.wanted) (expr_view_if (option_copied l.initial.first)) (flat_map (each_in_list (parts_of l.wanted)) (rows_view l.rows)))
