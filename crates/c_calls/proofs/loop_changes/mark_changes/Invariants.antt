use Rattle.std.proofs.Common.{◌≡◌, ℕ, ◌<◌, ◌||◌, drop, length}
use Rattle.c_meaning.specs.Parts.{some_of}
use Rattle.c_calls.specs.Marks.{is_marked}
use Rattle.c_calls.specs.Uses.{is_change}
use Rattle.c_calls.proofs.loop_changes.mark_changes.Given as goal

-- with what is left it becomes what the whole gives
abbrev pub invariant-loop-used : goal.invariant-loop-used
invariant-loop-used l =
    (o : ℕ) → o < length l.initial.marks → (is_marked l.marks o || some_of (is_change o) (drop l.used-index l.uses)) ≡ (is_marked l.initial.marks o || some_of (is_change o) l.uses)
