use Rattle.std.proofs.Common.{◌+◌, ap, sym, ◌∙◌, drop}
use Rattle.c_core.specs.Parts.{statements_of}
use Rattle.c_core.specs.View.{functions_view, stmt_view}
use Rattle.c_core.proofs.ArmLaws.{item_first}
use Rattle.way_places.specs.Seeking.{statements_of_functions, type_from}
use Rattle.way_places.proofs.SeekingLaws.{type_from_both}
use Rattle.way_places.proofs.switches.in_functions.Goals as goal

pub loop-function-preserved : goal.loop-function-preserved
loop-function-preserved c =
    let rest = statements_of_functions (functions_view (drop (c.loop-function.function-index + 1) c.args.functions.now)) in
    ap (λ b. type_from c.args.spot b rest) c.statement-first.ensures
    ∙ sym (type_from_both c.args.spot c.loop-function.first (statements_of (stmt_view c.function-item.result.body)) rest)
    ∙ sym (ap (λ xs. type_from c.args.spot c.loop-function.first (statements_of_functions (functions_view xs))) (item_first c.args.functions.now c.loop-function.function-index c.function-item.result c.loop-function-test.true c.function-item.is))
    ∙ c.loop-function.invariant
