use Rattle.std.proofs.Common.{◌≡◌, drop}
use Rattle.c_core.specs.TreeView.{names_view}
use Rattle.c_core.specs.Places.{places_in_names}
use Rattle.way_places.specs.Seeking.{best_of}
use Rattle.way_places.proofs.place.Location.names.Given as goal

-- with what is left it becomes what the whole gives
abbrev pub invariant-loop-name : goal.invariant-loop-name
invariant-loop-name l =
    (best_of l.self.kind l.self.line l.self.column l.nearest (places_in_names (names_view (drop l.name-index l.names)))
    ≡ best_of l.self.kind l.self.line l.self.column l.initial.nearest (places_in_names (names_view l.names)))
