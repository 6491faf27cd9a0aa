-- Clauses as lists of numbers: n is variable n, and -n its opposite.
use Rattle.std.specs.Prelude.{◌≡◌, ℕ, ◌<◌, ◌^◌, List, [], ◌∷◌, ℤ, neg_ℤ, ◌<ℤ◌, unsigned_abs}
use Rattle.std.specs.List.{All, Contains}

-- each number is above the one before it, the first above x
abbrev pub RisesFrom : ℤ → List ℤ → Type 0
RisesFrom x [] = Unit {0}
RisesFrom x (y ∷ ys) = (x <ℤ y) × RisesFrom y ys

-- in rising order, none twice
abbrev pub Rises : List ℤ → Type 0
Rises [] = Unit {0}
Rises (x ∷ xs) = RisesFrom x xs

-- nonzero and above -2^31
abbrev pub IsNumber : ℤ → Type 0
IsNumber x = (0 < unsigned_abs x) × (unsigned_abs x < 2 ^ 31)

-- no number together with its opposite
abbrev pub IsConsistent : List ℤ → Type 0
IsConsistent numbers = (x : ℤ) → Contains numbers x → Contains numbers (neg_ℤ x) → ⊥

-- a set of numbers, in rising order, without a number and its opposite
pub record IsClause (numbers : List ℤ) : Type 0 where
  pub rising : Rises numbers
  pub real : All IsNumber numbers
  pub apart : IsConsistent numbers

-- v may be the variable of the conjunction of a and b: those are numbers of two earlier variables
pub record CanJoin (v : ℕ) (a b : ℤ) : Type 0 where
  pub small : v < 2 ^ 31
  pub left : (0 < unsigned_abs a) × (unsigned_abs a < v)
  pub right : (0 < unsigned_abs b) × (unsigned_abs b < v)
  pub two : unsigned_abs a ≡ unsigned_abs b → ⊥
