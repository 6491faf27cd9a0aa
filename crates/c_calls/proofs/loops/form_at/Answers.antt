use Rattle.std.proofs.Common.{◌+◌, ap, sym, ◌∙◌, drop}
use Rattle.std.specs.List.{flat_map}
use Rattle.std.specs.Option.{option_copied, option_map}
use Rattle.c_core.specs.Parts.{statements_of}
use Rattle.c_core.specs.TreeView.{form_view, functions_view, stmt_view}
use Rattle.c_calls.specs.Loops.{first_loop}
use Rattle.c_core.proofs.ArmLaws.{item_first}
use Rattle.c_calls.proofs.LoopLaws.{first_loop_both}
use Rattle.c_calls.proofs.loops.form_at.Goals as goal

pub loop-function-preserved : goal.loop-function-preserved
loop-function-preserved c =
    let fs = c.as_slice-function-items.result.now in
    let i = c.loop-function.function-index in
    ap (λ b. first_loop c.args.spot b (flat_map (λ f. statements_of f.body) (functions_view (drop (i + 1) fs)))) c.statement-first.ensures
    ∙ sym (first_loop_both c.args.spot (option_map form_view (option_copied c.loop-function.first)) (statements_of (stmt_view c.function-item.result.body)) (flat_map (λ f. statements_of f.body) (functions_view (drop (i + 1) fs))))
    ∙ sym (ap (λ xs. first_loop c.args.spot (option_map form_view (option_copied c.loop-function.first)) (flat_map (λ f. statements_of f.body) (functions_view xs))) (item_first fs i c.function-item.result c.loop-function-test.true c.function-item.is))
    ∙ c.loop-function.invariant
