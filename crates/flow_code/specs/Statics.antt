-- Where the values stand that objects of static storage start with.
use Rattle.std.specs.Prelude.{◌≡◌, ◌<◌, ℕ, ℤ, List, [], length, slice_get, slice_index, Option, Some, None}
use Rattle.c_core.specs.declared.tree.Start.{Start}
use Rattle.c_meaning.specs.Run.{start_values}

-- the values of a start, if there is one
abbrev pub values_of : Option Start → List ℤ
values_of None = []
values_of (Some x) = x.values

-- for each of n objects a place among the starts, at which its values stand, or none do
pub record ArePlacesOf (places : List ℕ) (n : ℕ) (starts : List Start) : Type 0 where
  pub count : length places ≡ n
  pub values : (o : ℕ) → o < n → values_of (slice_get starts (slice_index places o)) ≡ start_values o starts
