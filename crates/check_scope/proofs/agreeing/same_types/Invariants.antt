-- The lists are the same where what is left of them is.
use Rattle.std.proofs.Common.{◌≡◌, drop}
use Rattle.check_rules.specs.Codes.{same_lists}
use Rattle.check_scope.specs.Kinds.{types_in}
use Rattle.check_scope.proofs.agreeing.same_types.Given as goal

abbrev pub invariant-loop-at : goal.invariant-loop-at
invariant-loop-at l = same_lists (types_in l.one) (types_in l.other) ≡ same_lists (drop l.at (types_in l.one)) (drop l.at (types_in l.other))
