use Rattle.std.proofs.Common.{◌≡◌, ◌++◌, drop}
use Rattle.std.specs.List.{flat_map}
use Rattle.c_core.specs.View.{rows_view}
use Rattle.c_draws.specs.Drawing.{inputs_of_arguments}
use Rattle.c_draws.proofs.inputs.push_rows.Given as goal

-- with what is left it becomes what the whole gives
abbrev pub invariant-loop-row : goal.invariant-loop-row
invariant-loop-row l =
    (l.list.items ++ flat_map inputs_of_arguments (rows_view (drop l.row-index l.rows)) ≡ l.initial.list.items ++ flat_map inputs_of_arguments (rows_view l.rows))
