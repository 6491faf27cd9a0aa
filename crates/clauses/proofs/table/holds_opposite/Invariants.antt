use Rattle.std.proofs.Common.{take}
use Rattle.std.specs.Prelude.{neg_ℤ}
use Rattle.std.specs.List.{Contains}
use Rattle.clauses.proofs.table.holds_opposite.Given as goal

abbrev pub invariant-loop-y : goal.invariant-loop-y
invariant-loop-y l = Contains (take l.y-index l.clause) (neg_ℤ l.number) → ⊥
