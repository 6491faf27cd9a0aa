-- Which variables a set of clauses may speak of.
use Rattle.std.specs.Prelude.{ℕ, ◌<◌, ◌≤◌, List, ℤ, unsigned_abs}
use Rattle.std.specs.List.{All}

-- a number of one of n variables
abbrev pub IsOf : ℕ → ℤ → Type 0
IsOf n x = (0 < unsigned_abs x) × (unsigned_abs x ≤ n)

-- all numbers of all clauses are of these variables
abbrev pub AreOf : ℕ → List (List ℤ) → Type 0
AreOf n clauses = All (λ c. All (λ x. IsOf n x) c) clauses
