-- What contracts see of a memory.
use Rattle.std.specs.Prelude.{ℕ, suc, pos, List, [], ◌∷◌, ◌<◌, ◌≡◌, true, false, length, drop, slice_index_or}
use Rattle.c_meaning.specs.Cells.{Key, Cell, same_key, live}
use Rattle.c_meaning.specs.declared.memory.Live.{Live}

-- the live cells, the innermost last, and for how many there is room
pub record Held : Type 0 where
  pub cells : List Cell
  pub room : ℕ

abbrev pub cell_of : Live → Cell
cell_of l = record { key = record { object = l.object; index = l.index }; value = l.value }

abbrev pub cells_of : List Live → List Cell
cells_of [] = []
cells_of (l ∷ ls) = cell_of l ∷ cells_of ls

abbrev pub no_cell : Cell
no_cell = record { key = record { object = 0; index = 0 }; value = pos 0 }

-- the innermost such cell stands at an index
pub record IsInnermost (k : Key) (cs : List Cell) (at : ℕ) : Type 0 where
  pub within : at < length cs
  pub here : same_key (slice_index_or cs at no_cell).key k ≡ true
  pub none_behind : live k (drop (suc at) cs) ≡ false
