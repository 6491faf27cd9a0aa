use Rattle.std.proofs.Common.{◌≡◌, drop}
use Rattle.c_core.specs.TreeView.{exprs_view}
use Rattle.c_core.specs.Places.{places_in_arguments}
use Rattle.way_places.specs.Seeking.{best_of}
use Rattle.way_places.proofs.place.Location.+expression.Given as goal

-- with what is left it becomes what the whole gives
abbrev pub invariant-arguments-loop-e : goal.invariant-arguments-loop-e
invariant-arguments-loop-e l =
    (best_of l.self.kind l.self.line l.self.column l.nearest (places_in_arguments (exprs_view (drop l.e-index l.es)))
    ≡ best_of l.self.kind l.self.line l.self.column l.initial.nearest (places_in_arguments (exprs_view l.es)))
