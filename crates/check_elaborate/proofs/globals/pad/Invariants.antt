use Rattle.std.proofs.Common.{◌≡◌, ◌++◌, pos, replicate}
use Rattle.check_elaborate.proofs.globals.pad.Given as goal

abbrev pub invariant-loop : goal.invariant-loop
invariant-loop l = l.values ≡ l.initial.values ++ replicate l.counter (pos 0)
