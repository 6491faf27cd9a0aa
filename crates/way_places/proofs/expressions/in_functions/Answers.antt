use Rattle.std.proofs.Common.{◌+◌, ap, sym, ◌∙◌, drop}
use Rattle.std.specs.Option.{option_copied}
use Rattle.c_core.specs.View.{expr_view_if, functions_view, stmt_view}
use Rattle.c_core.proofs.ArmLaws.{item_first}
use Rattle.way_places.specs.Seeking.{first_of, is_wanted}
use Rattle.way_places.specs.Sought.{each_in, each_in_functions, parts_of}
use Rattle.way_places.proofs.SeekingLaws.{first_of_both}
use Rattle.way_places.proofs.expressions.in_functions.Goals as goal

pub loop-function-preserved : goal.loop-function-preserved
loop-function-preserved c =
    ap (λ b. first_of (is_wanted c.args.wanted) b (each_in_functions (parts_of c.args.wanted) (functions_view (drop (c.loop-function.function-index + 1) c.args.functions.now)))) c.statement-first.ensures
    ∙ sym (first_of_both (is_wanted c.args.wanted) (expr_view_if (option_copied c.loop-function.first)) (each_in (parts_of c.args.wanted) (stmt_view c.function-item.result.body)) (each_in_functions (parts_of c.args.wanted) (functions_view (drop (c.loop-function.function-index + 1) c.args.functions.now))))
    ∙ sym (ap (λ xs. first_of (is_wanted c.args.wanted) (expr_view_if (option_copied c.loop-function.first)) (each_in_functions (parts_of c.args.wanted) (functions_view xs))) (item_first c.args.functions.now c.loop-function.function-index c.function-item.result c.loop-function-test.true c.function-item.is))
    ∙ c.loop-function.invariant
