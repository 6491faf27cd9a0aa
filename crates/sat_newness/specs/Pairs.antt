-- Pairs of numbers by which clauses are settled.
use Rattle.std.specs.Prelude.{◌≡◌, ◌≢◌, ℕ, ◌+◌, ◌<◌, ◌≤◌, Some, List, slice_get, slice_index, ℤ}
use Rattle.std.specs.List.{Contains}
use Rattle.sat_newness.specs.declared.pairs.Pair.{Pair}
use Rattle.sat_newness.specs.Weights.{code, IsSettled}

-- the clause holds the number that tables keep at a code
pub record HoldsAt (c : List ℤ) (at : ℕ) : Type 0 where
  pub number : ℤ
  pub held : Contains c number
  pub is : code number ≡ at

-- where the codes of the pair differ, they are those of numbers of the clause
pub record IsPairOf (c : List ℤ) (pair : Pair) : Type 0 where
  pub held : pair.one ≢ pair.other → HoldsAt c pair.one × HoldsAt c pair.other

-- the first pairs are those of the first clauses
pub record ArePairs (clauses : List (List ℤ)) (pairs : List Pair) : Type 0 where
  pub each : (k : ℕ) (c : List ℤ) (pair : Pair) → slice_get clauses k ≡ Some c → slice_get pairs k ≡ Some pair → IsPairOf c pair

-- two codes that weigh 2 together
pub record Settles (table : List ℕ) (pair : Pair) : Type 0 where
  pub apart : pair.one ≢ pair.other
  pub enough : 2 ≤ slice_index table pair.one + slice_index table pair.other

-- a pair that settles the clause
pub record IsFound (table : List ℕ) (c : List ℤ) (pair : Pair) : Type 0 where
  pub settled : IsSettled table c
  pub held : IsPairOf c pair

-- the first n clauses are settled
pub record AreSettledTo (table : List ℕ) (clauses : List (List ℤ)) (n : ℕ) : Type 0 where
  pub each : (k : ℕ) (c : List ℤ) → k < n → slice_get clauses k ≡ Some c → IsSettled table c
