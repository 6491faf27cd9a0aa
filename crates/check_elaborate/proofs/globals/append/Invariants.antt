use Rattle.std.proofs.Common.{◌≡◌, ◌++◌, take}
use Rattle.check_elaborate.proofs.globals.append.Given as goal

abbrev pub invariant-loop-value : goal.invariant-loop-value
invariant-loop-value l = l.all ≡ l.initial.all ++ take l.value-index l.values
