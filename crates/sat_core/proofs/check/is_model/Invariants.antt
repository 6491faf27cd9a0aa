use Rattle.std.proofs.Common.{◌≡◌, ℕ, ◌<◌, Some, true, List, ℤ}
use Rattle.std.specs.Prelude.{slice_get}
use Rattle.clauses.specs.Assignment.{clause_holds}
use Rattle.sat_core.specs.Answers.{value_at}
use Rattle.sat_core.proofs.check.is_model.Given as goal

abbrev pub invariant-loop-clause : goal.invariant-loop-clause
invariant-loop-clause l = (k : ℕ) (c : List ℤ) → k < l.clause-index → slice_get l.cnf.clauses k ≡ Some c → clause_holds (value_at l.values) c ≡ true
