use Rattle.std.proofs.Common.{◌≡◌, ℕ, ◌<◌, Some, List, ℤ}
use Rattle.std.specs.Prelude.{slice_get}
use Rattle.clauses.specs.Clause.{IsClause}
use Rattle.sat_core.proofs.plain.are_clauses.Given as goal

abbrev pub invariant-loop-clause : goal.invariant-loop-clause
invariant-loop-clause l = (k : ℕ) (c : List ℤ) → k < l.clause-index → slice_get l.given k ≡ Some c → IsClause c
