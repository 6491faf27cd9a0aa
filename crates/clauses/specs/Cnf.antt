-- Sets of clauses.
use Rattle.std.specs.Prelude.{◌≡◌, ℕ, List, ℤ}
use Rattle.clauses.specs.declared.cnf.Cnf.{Cnf}

-- over these variables and of these clauses
pub record IsCnf (cnf : Cnf) (variables : ℕ) (clauses : List (List ℤ)) : Type 0 where
  pub same_variables : cnf.variables ≡ variables
  pub same_clauses : cnf.clauses ≡ clauses
