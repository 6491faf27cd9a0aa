-- Clauses as DIMACS CNF: a heading, then a line for each clause.
use Rattle.std.specs.Prelude.{ℕ, List, ◌++◌, ℤ, length, codes, decimal}
use Rattle.std.specs.Fmt.{signed_decimal}
use Rattle.std.specs.List.{flat_map}

-- a number of a clause
abbrev pub number_text : ℤ → List ℕ
number_text number = signed_decimal number ++ codes " "

-- the numbers of a clause, ended by a zero
abbrev pub clause_line : List ℤ → List ℕ
clause_line numbers = flat_map number_text numbers ++ codes "0\n"

-- how many variables and clauses there are
abbrev pub heading : ℕ → ℕ → List ℕ
heading variables clauses = codes "p cnf " ++ decimal variables ++ codes " " ++ decimal clauses ++ codes "\n"

-- the whole text
unfoldable pub dimacs_text : ℕ → List (List ℤ) → List ℕ
dimacs_text variables clauses = heading variables (length clauses) ++ flat_map clause_line clauses
