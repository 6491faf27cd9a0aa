use Rattle.std.proofs.Common.{◌≡◌, drop}
use Rattle.c_core.specs.Places.{places_of_block}
use Rattle.c_core.specs.View.{switch_view, stmts_view}
use Rattle.way_places.specs.Seeking.{best_of}
use Rattle.way_places.proofs.place.Location.+statement.Given as goal

-- with what is left it becomes what the whole gives
abbrev pub invariant-block-loop-s : goal.invariant-block-loop-s
invariant-block-loop-s l =
    (best_of l.self.kind l.self.line l.self.column l.nearest (places_of_block (stmts_view (drop l.s-index l.body)))
    ≡ best_of l.self.kind l.self.line l.self.column l.initial.nearest (places_of_block (stmts_view l.body)))

abbrev pub invariant-arms-loop-arm : goal.invariant-arms-loop-arm
invariant-arms-loop-arm l =
    (best_of l.self.kind l.self.line l.self.column l.nearest (places_of_block (switch_view (drop l.arm-index l.arms)))
    ≡ best_of l.self.kind l.self.line l.self.column l.initial.nearest (places_of_block (switch_view l.arms)))
