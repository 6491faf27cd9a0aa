use Rattle.std.proofs.Common.{◌≡◌}
use Rattle.c_core.specs.View.{program_view}
use Rattle.c_core.specs.Scope.{is_fixed}
use Rattle.c_meaning.specs.Parts.{those, numbers_from}
use Rattle.c_calls.specs.Marks.{is_changed}
use Rattle.c_calls.proofs.loop_changes.collect.Given as goal

-- those of the objects so far
abbrev pub invariant-loop-number : goal.invariant-loop-number
invariant-loop-number l =
    l.objects.items ≡ those (λ o. is_changed l.here l.inside l.there o (is_fixed (program_view l.program) o)) (numbers_from 0 l.number)
