use Rattle.std.proofs.Common.{◌≡◌, drop}
use Rattle.std.specs.List.{flat_map}
use Rattle.c_core.specs.Places.{places_in_arguments}
use Rattle.c_core.specs.View.{rows_view}
use Rattle.way_places.specs.Seeking.{best_of}
use Rattle.way_places.proofs.place.Location.rows.Given as goal

-- with what is left it becomes what the whole gives
abbrev pub invariant-loop-row : goal.invariant-loop-row
invariant-loop-row l =
    (best_of l.self.kind l.self.line l.self.column l.nearest (flat_map places_in_arguments (rows_view (drop l.row-index l.rows)))
    ≡ best_of l.self.kind l.self.line l.self.column l.initial.nearest (flat_map places_in_arguments (rows_view l.rows)))
