use Rattle.std.proofs.Common.{◌≡◌, drop}
use Rattle.std.specs.List.{flat_map}
use Rattle.std.specs.Option.{option_copied, option_map}
use Rattle.c_core.specs.Parts.{statements_of}
use Rattle.c_core.specs.TreeView.{form_view, functions_view}
use Rattle.c_calls.specs.Loops.{first_loop}
use Rattle.c_calls.proofs.loops.form_at.Given as goal

-- with what is left it becomes what the whole gives
abbrev pub invariant-loop-function : goal.invariant-loop-function
invariant-loop-function l =
    (first_loop l.spot (option_map form_view (option_copied l.first)) (flat_map (λ f. statements_of f.body) (functions_view (drop l.function-index l.function-items)))
    ≡ first_loop l.spot (option_map form_view (option_copied l.initial.first)) (flat_map (λ f. statements_of f.body) (functions_view l.function-items)))
