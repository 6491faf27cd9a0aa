use Rattle.std.proofs.Common.{◌+◌, ap, sym, ◌∙◌, drop}
use Rattle.c_core.specs.Places.{places_in_init, places_in_names}
use Rattle.c_core.specs.View.{init_view, names_view}
use Rattle.c_core.proofs.ArmLaws.{item_first}
use Rattle.way_places.specs.Seeking.{best_of}
use Rattle.way_places.proofs.SeekingLaws.{best_of_both}
use Rattle.way_places.proofs.place.Location.names.Goals as goal

pub loop-name-preserved : goal.loop-name-preserved
loop-name-preserved c =
    ap (λ b. best_of c.args.self.now.kind c.args.self.now.line c.args.self.now.column b (places_in_names (names_view (drop (c.loop-name.name-index + 1) c.args.names.now)))) c.init-nearest.ensures
    ∙ sym (best_of_both c.args.self.now.kind c.args.self.now.line c.args.self.now.column c.loop-name.nearest (places_in_init (init_view c.name-item.result.init)) (places_in_names (names_view (drop (c.loop-name.name-index + 1) c.args.names.now))))
    ∙ sym (ap (λ xs. best_of c.args.self.now.kind c.args.self.now.line c.args.self.now.column c.loop-name.nearest (places_in_names (names_view xs))) (item_first c.args.names.now c.loop-name.name-index c.name-item.result c.loop-name-test.true c.name-item.is))
    ∙ c.loop-name.invariant
