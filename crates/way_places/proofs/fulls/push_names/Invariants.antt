use Rattle.std.proofs.Common.{◌≡◌, ◌++◌, drop}
use Rattle.c_core.specs.TreeView.{names_view}
use Rattle.way_places.specs.Calls.{alone, fulls_view}
use Rattle.way_places.specs.Sought.{each_in_names}
use Rattle.way_places.proofs.fulls.push_names.Given as goal

-- with what is left it becomes what the whole gives
abbrev pub invariant-loop-name : goal.invariant-loop-name
invariant-loop-name l =
    (fulls_view l.list.items ++ each_in_names alone (names_view (drop l.name-index l.names)) ≡ fulls_view l.initial.list.items ++ each_in_names alone (names_view l.names))
