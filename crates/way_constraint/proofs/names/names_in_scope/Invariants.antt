use Rattle.std.proofs.Common.{◌≡◌, take}
use Rattle.check_scope.specs.InScope.{all_of}
use Rattle.way_constraint.specs.Constraints.{entries}
use Rattle.way_constraint.proofs.names.names_in_scope.Given as goal

abbrev pub invariant-loop-number : goal.invariant-loop-number
invariant-loop-number l = all_of l.table ≡ entries l.objects (take l.number-index l.numbers)
