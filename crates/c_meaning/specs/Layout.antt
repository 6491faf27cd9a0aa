-- Names of objects of known sizes, numbered: each object's names follow those of the objects before it.
use Rattle.std.specs.Prelude.{ℕ, ◌+◌, ◌-◌, ◌<◌, ◌≤◌, nat_lt, ◌&&◌, cond, List, length, slice_index_or, Option, Some, None}
use Rattle.c_meaning.specs.Cells.{Key}

-- the number of an object's first name; after the last object, how many names there are
abbrev pub start : List ℕ → ℕ → ℕ
start starts object = slice_index_or starts object 0

-- no object's names begin before those of an object before it
abbrev pub Rising : List ℕ → Type 0
Rising starts = (i j : ℕ) → i ≤ j → j < length starts → start starts i ≤ start starts j

-- an object's size
abbrev pub size_in : List ℕ → ℕ → ℕ
size_in starts object = start starts (object + 1) - start starts object

-- how many names there are
abbrev pub count_of : List ℕ → ℕ
count_of starts = start starts (length starts - 1)

-- the number of a name, if its object is one of the layout's and its index below the object's size
unfoldable pub number_of : List ℕ → Key → Option ℕ
number_of starts k = cond (nat_lt (k.object + 1) (length starts) && nat_lt k.index (size_in starts k.object)) (Some (start starts k.object + k.index)) None
