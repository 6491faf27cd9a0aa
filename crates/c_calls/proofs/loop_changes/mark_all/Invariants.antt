use Rattle.std.proofs.Common.{◌≡◌, ℕ, ◌<◌, ◌||◌, drop, length}
use Rattle.c_meaning.specs.Parts.{is_in}
use Rattle.c_calls.specs.Marks.{is_marked}
use Rattle.c_calls.proofs.loop_changes.mark_all.Given as goal

-- with what is left it becomes what the whole gives
abbrev pub invariant-loop-number : goal.invariant-loop-number
invariant-loop-number l =
    (n : ℕ) → n < length l.initial.marks → (is_marked l.marks n || is_in n (drop l.number-index l.numbers)) ≡ (is_marked l.initial.marks n || is_in n l.numbers)
