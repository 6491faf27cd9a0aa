use Rattle.std.proofs.Common.{ℕ, ◌<◌, nat_le}
use Rattle.std.specs.Prelude.{IsTrue}
use Rattle.c_core.specs.View.{program_view}
use Rattle.c_calls.specs.Levels.{each_call, level_of}
use Rattle.c_calls.specs.Uses.{uses_of_function}
use Rattle.c_calls.proofs.recursion.all_rise.Given as goal

-- the calls of the functions so far rise
abbrev pub invariant-loop-number : goal.invariant-loop-number
invariant-loop-number l =
    (f : ℕ) → f < l.number → IsTrue (each_call (λ g. nat_le (level_of l.levels f) (level_of l.levels g)) (uses_of_function (program_view l.program) f))
