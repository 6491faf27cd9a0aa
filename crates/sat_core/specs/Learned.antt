-- What a conflict adds to the log.
use Rattle.std.specs.Prelude.{◌≡◌, ◌≢◌, ℕ, ◌+◌, ◌<◌, Bool, false, Some, List, [], length, slice_get, ℤ, pos}
use Rattle.std.specs.List.{Contains}
use Rattle.clauses.specs.declared.log.Chain.{Chain}
use Rattle.clauses.specs.Log.{IsRight}
use Rattle.clauses.specs.Spent.{IsNew, Decides}
use Rattle.sat_core.specs.Derived.{AreOnce}

-- under the first values, of which variable u + 1 has the one at u, the clause leaves only the variable after them, and makes it true
pub record Blocks (c : List ℤ) (values : List Bool) : Type 0 where
  pub last : Contains c (pos (length values + 1))
  pub others : (y : ℤ) → Contains c y → y ≢ pos (length values + 1) → (u : ℕ) × (u < length values) × (y ≡ pos (u + 1)) × (slice_get values u ≡ Some false)

-- a new clause, and values that it is the first clause to block
pub record IsFresh (given : List (List ℤ)) (size : ℕ) (clauses : List (List ℤ)) (c : List ℤ) : Type 0 where
  pub new : IsNew clauses c
  pub values : List Bool
  pub blocks : Blocks c values
  pub first : (d : List ℤ) → Contains clauses d → Blocks d values → ⊥
  pub few : (k variables : ℕ) → size ≡ variables + 1 → Decides k variables given → length values < k

-- a right chain that resolves on no variable twice, and gives the empty clause or a new one
pub record IsLearned (given : List (List ℤ)) (size : ℕ) (clauses : List (List ℤ)) (chain : Chain) : Type 0 where
  pub right : IsRight clauses chain
  pub once : AreOnce chain.steps
  pub fresh : chain.gives ≢ [] → IsFresh given size clauses chain.gives
