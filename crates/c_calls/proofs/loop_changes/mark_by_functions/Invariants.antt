use Rattle.std.proofs.Common.{◌≡◌, ℕ, ◌<◌, ◌||◌, drop, length}
use Rattle.c_core.specs.View.{program_view}
use Rattle.c_meaning.specs.Parts.{some_of}
use Rattle.c_calls.specs.Marks.{is_marked}
use Rattle.c_calls.specs.Uses.{is_change, uses_of_function}
use Rattle.c_calls.proofs.loop_changes.mark_by_functions.Given as goal

-- with what is left it becomes what the whole gives
abbrev pub invariant-loop-function : goal.invariant-loop-function
invariant-loop-function l =
    (o : ℕ) → o < length l.initial.marks
    → (is_marked l.marks o || some_of (λ f. some_of (is_change o) (uses_of_function (program_view l.program) f)) (drop l.function-index l.functions)) ≡ (is_marked l.initial.marks o || some_of (λ f. some_of (is_change o) (uses_of_function (program_view l.program) f)) l.functions)
