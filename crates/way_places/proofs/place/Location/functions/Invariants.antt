use Rattle.std.proofs.Common.{◌≡◌, drop, None}
use Rattle.c_core.specs.TreeView.{functions_view}
use Rattle.way_places.specs.Seeking.{best_of, places_of_functions}
use Rattle.way_places.proofs.place.Location.functions.Given as goal

-- with what is left it becomes what the whole gives
abbrev pub invariant-loop-function : goal.invariant-loop-function
invariant-loop-function l =
    (best_of l.self.kind l.self.line l.self.column l.nearest (places_of_functions (functions_view (drop l.function-index l.functions)))
    ≡ best_of l.self.kind l.self.line l.self.column None (places_of_functions (functions_view l.functions)))
