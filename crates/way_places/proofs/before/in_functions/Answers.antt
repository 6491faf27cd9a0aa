use Rattle.std.proofs.Common.{◌+◌, ap, sym, ◌∙◌, drop}
use Rattle.std.specs.Option.{option_copied, option_map}
use Rattle.c_core.specs.Parts.{statements_of}
use Rattle.c_core.specs.View.{functions_view, stmt_view}
use Rattle.c_core.proofs.ArmLaws.{item_first}
use Rattle.way_places.specs.Seeking.{before_of, statements_of_functions}
use Rattle.way_places.proofs.SeekingLaws.{before_of_both}
use Rattle.way_places.proofs.before.in_functions.Goals as goal

pub loop-function-preserved : goal.loop-function-preserved
loop-function-preserved c =
    ap (λ b. before_of c.args.spot b (statements_of_functions (functions_view (drop (c.loop-function.function-index + 1) c.args.functions.now)))) c.statement-first.ensures
    ∙ sym (before_of_both c.args.spot (option_map stmt_view (option_copied c.loop-function.first)) (statements_of (stmt_view c.function-item.result.body)) (statements_of_functions (functions_view (drop (c.loop-function.function-index + 1) c.args.functions.now))))
    ∙ sym (ap (λ xs. before_of c.args.spot (option_map stmt_view (option_copied c.loop-function.first)) (statements_of_functions (functions_view xs))) (item_first c.args.functions.now c.loop-function.function-index c.function-item.result c.loop-function-test.true c.function-item.is))
    ∙ c.loop-function.invariant
