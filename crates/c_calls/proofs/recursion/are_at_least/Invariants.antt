use Rattle.std.proofs.Common.{◌≡◌, drop, nat_le}
use Rattle.c_calls.specs.Levels.{each_call, level_of}
use Rattle.c_calls.proofs.recursion.are_at_least.Given as goal

-- with what is left it becomes what the whole gives
abbrev pub invariant-loop-used : goal.invariant-loop-used
invariant-loop-used l =
    each_call (λ g. nat_le l.floor (level_of l.levels g)) (drop l.used-index l.uses) ≡ each_call (λ g. nat_le l.floor (level_of l.levels g)) l.uses
