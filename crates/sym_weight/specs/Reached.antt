-- Functions that are wanted, marked by their numbers.
use Rattle.std.specs.Prelude.{ℕ, Bool, true, IsTrue, List, [], Option, None, Some, slice_get, slice_index_or}
use Rattle.std.specs.List.{list_all}
use Rattle.sym_weight.specs.Tally.{Tally}

-- a number beyond the end counts as marked: no function has it
abbrev pub is_wanted : List Bool → ℕ → Bool
is_wanted marks f = slice_index_or marks f true

abbrev pub calls_in : Option Tally → List ℕ
calls_in None = []
calls_in (Some t) = t.calls

-- main is marked, and with each marked function those that it calls
pub record IsClosed (marks : List Bool) (tallies : List Tally) (main : ℕ) : Type 0 where
  pub marked : IsTrue (is_wanted marks main)
  pub calls : (f : ℕ) → IsTrue (is_wanted marks f) → IsTrue (list_all (is_wanted marks) (calls_in (slice_get tallies f)))
