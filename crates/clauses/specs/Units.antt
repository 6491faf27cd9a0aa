-- Unit propagation.
use Rattle.std.specs.Prelude.{◌≢◌, List, ℤ, neg_ℤ}
use Rattle.std.specs.List.{Contains}

-- the numbers that the given ones force: where the opposites of all others of a clause are there, so is its last one
pub data Units (clauses : List (List ℤ)) (given : List ℤ) : ℤ → Type 0 where
  given_one : (x : ℤ) → Contains given x → Units clauses given x
  forced : (c : List ℤ) (x : ℤ) → Contains clauses c → Contains c x → ((y : ℤ) → Contains c y → y ≢ x → Units clauses given (neg_ℤ y)) → Units clauses given x

-- they hold the opposites of all numbers of some clause
abbrev pub Fails : List (List ℤ) → List ℤ → Type 0
Fails clauses given = (c : List ℤ) × Contains clauses c × ((y : ℤ) → Contains c y → Units clauses given (neg_ℤ y))
