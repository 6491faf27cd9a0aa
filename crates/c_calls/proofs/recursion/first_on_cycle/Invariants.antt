use Rattle.std.proofs.Common.{ℕ, ◌<◌}
use Rattle.std.specs.Prelude.{IsTrue}
use Rattle.c_core.specs.View.{program_view}
use Rattle.c_calls.specs.Calling.{Reaches}
use Rattle.c_calls.specs.Marks.{is_marked}
use Rattle.c_calls.proofs.recursion.first_on_cycle.Given as goal

-- no marked function so far lies on a cycle
abbrev pub invariant-loop-number : goal.invariant-loop-number
invariant-loop-number l = (f : ℕ) → f < l.number → IsTrue (is_marked l.reached f) → Reaches (program_view l.program) f f → ⊥
