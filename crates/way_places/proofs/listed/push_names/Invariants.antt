use Rattle.std.proofs.Common.{◌≡◌, ◌++◌, drop}
use Rattle.c_core.specs.TreeView.{names_view}
use Rattle.c_core.specs.Places.{places_in_names}
use Rattle.way_places.proofs.listed.push_names.Given as goal

-- with what is left it becomes what the whole gives
abbrev pub invariant-loop-name : goal.invariant-loop-name
invariant-loop-name l =
    (l.list.items ++ places_in_names (names_view (drop l.name-index l.names)) ≡ l.initial.list.items ++ places_in_names (names_view l.names))
