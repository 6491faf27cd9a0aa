use Rattle.std.proofs.Common.{◌+◌, ap, sym, ◌∙◌, drop}
use Rattle.c_core.specs.Places.{places_of_body}
use Rattle.c_core.specs.View.{functions_view, stmt_view}
use Rattle.c_core.proofs.ArmLaws.{item_first}
use Rattle.way_places.specs.Seeking.{best_of, places_of_functions}
use Rattle.way_places.proofs.SeekingLaws.{best_of_both}
use Rattle.way_places.proofs.place.Location.functions.Goals as goal

pub loop-function-preserved : goal.loop-function-preserved
loop-function-preserved c =
    ap (λ b. best_of c.args.self.now.kind c.args.self.now.line c.args.self.now.column b (places_of_functions (functions_view (drop (c.loop-function.function-index + 1) c.args.functions.now)))) c.form-nearest.ensures
    ∙ sym (best_of_both c.args.self.now.kind c.args.self.now.line c.args.self.now.column c.loop-function.nearest (places_of_body (stmt_view c.function-item.result.body)) (places_of_functions (functions_view (drop (c.loop-function.function-index + 1) c.args.functions.now))))
    ∙ sym (ap (λ xs. best_of c.args.self.now.kind c.args.self.now.line c.args.self.now.column c.loop-function.nearest (places_of_functions (functions_view xs))) (item_first c.args.functions.now c.loop-function.function-index c.function-item.result c.loop-function-test.true c.function-item.is))
    ∙ c.loop-function.invariant
