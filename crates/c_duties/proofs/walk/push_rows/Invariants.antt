use Rattle.std.proofs.Common.{◌≡◌, ◌++◌, drop}
use Rattle.std.specs.List.{flat_map}
use Rattle.c_core.specs.View.{program_view, rows_view}
use Rattle.c_meaning.specs.Duties.{property_duties}
use Rattle.c_core.specs.Parts.{exps_in}
use Rattle.c_duties.proofs.walk.push_rows.Given as goal

-- with what is left it becomes what the whole gives
abbrev pub invariant-loop-row : goal.invariant-loop-row
invariant-loop-row l =
    (l.list.items ++ property_duties (program_view l.program) (flat_map exps_in (rows_view (drop l.row-index l.rows))) ≡ l.initial.list.items ++ property_duties (program_view l.program) (flat_map exps_in (rows_view l.rows)))
