use Rattle.std.proofs.Common.{◌+◌, ap, sym, ◌∙◌, drop}
use Rattle.std.specs.List.{flat_map}
use Rattle.c_core.specs.Places.{places_in_arguments}
use Rattle.c_core.specs.View.{exprs_view, rows_view}
use Rattle.c_core.proofs.ArmLaws.{item_first}
use Rattle.way_places.specs.Seeking.{best_of}
use Rattle.way_places.proofs.SeekingLaws.{best_of_both}
use Rattle.way_places.proofs.place.Location.rows.Goals as goal

pub loop-row-preserved : goal.loop-row-preserved
loop-row-preserved c =
    let rest = flat_map places_in_arguments (rows_view (drop (c.loop-row.row-index + 1) c.args.rows.now)) in
    ap (λ b. best_of c.args.self.now.kind c.args.self.now.line c.args.self.now.column b rest) (c.arguments-nearest.ensures ∙ ap (λ es. best_of c.args.self.now.kind c.args.self.now.line c.args.self.now.column c.loop-row.nearest (places_in_arguments (exprs_view es))) c.as_slice.ensures)
    ∙ sym (best_of_both c.args.self.now.kind c.args.self.now.line c.args.self.now.column c.loop-row.nearest (places_in_arguments (exprs_view c.row-item.result.values)) rest)
    ∙ sym (ap (λ xs. best_of c.args.self.now.kind c.args.self.now.line c.args.self.now.column c.loop-row.nearest (flat_map places_in_arguments (rows_view xs))) (item_first c.args.rows.now c.loop-row.row-index c.row-item.result c.loop-row-test.true c.row-item.is))
    ∙ c.loop-row.invariant
