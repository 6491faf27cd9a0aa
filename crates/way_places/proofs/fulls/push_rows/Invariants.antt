use Rattle.std.proofs.Common.{◌≡◌, ◌++◌, drop}
use Rattle.std.specs.List.{flat_map}
use Rattle.c_core.specs.View.{rows_view}
use Rattle.way_places.specs.Calls.{alone, fulls_view}
use Rattle.way_places.specs.Sought.{each_in_list}
use Rattle.way_places.proofs.fulls.push_rows.Given as goal

-- with what is left it becomes what the whole gives
abbrev pub invariant-loop-row : goal.invariant-loop-row
invariant-loop-row l =
    (fulls_view l.list.items ++ flat_map (each_in_list alone) (rows_view (drop l.row-index l.rows)) ≡ fulls_view l.initial.list.items ++ flat_map (each_in_list alone) (rows_view l.rows))
