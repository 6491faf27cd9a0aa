use Rattle.std.proofs.Common.{◌≡◌, ◌++◌, drop}
use Rattle.std.specs.List.{flat_map}
use Rattle.c_core.specs.TreeView.{rows_view}
use Rattle.check_sequencing.specs.Bodies.{fulls_view, initializers}
use Rattle.check_sequencing.proofs.bodies.push_rows.Given as goal

-- with what is left it becomes what the whole gives
abbrev pub invariant-loop-row : goal.invariant-loop-row
invariant-loop-row l =
    (fulls_view l.list.items ++ flat_map (initializers l.object) (rows_view (drop l.row-index l.rows)) ≡ fulls_view l.initial.list.items ++ flat_map (initializers l.object) (rows_view l.rows))
