-- The places of a cell, and the digits that spell it.
use Rattle.std.specs.Prelude.{◌≡◌, ℕ, suc, ◌+◌, ◌-◌, ◌*◌, ◌/◌, ◌^◌, ◌<◌, nat_lt, Bool, cond, List, Option, Some, None, length, map, take, drop}
use Rattle.c_core.specs.Tree.{Program}
use Rattle.c_meaning.specs.Objects.{size_of_object, columns_of_object}
use Rattle.c_meaning.specs.Run.{index_below, in_row}
use Rattle.circuits.specs.declared.net.Bit.{Bit}
use Rattle.circuits.specs.declared.net.NetNode.{NetNode}
use Rattle.circuits.specs.Net.{holds, Grown}
use Rattle.circuits.specs.Numbers.{number, read, AreIn}
use Rattle.sym_state.specs.Standing.{marks}
use Rattle.sym_elements.specs.declared.placing.Places.{Places}

-- under inputs the cell where a run is, if it is at one
abbrev pub MaybeCell : Type 0
MaybeCell = (ℕ → Bool) → Option ℕ

-- the mark of a cell
abbrev pub mark_of : Option ℕ → ℕ
mark_of None = 0
mark_of (Some k) = suc k

-- the number of the cell whose column the first digits spell, and whose row the others
abbrev pub cell_number : (ℕ → Bool) → List NetNode → ℕ → ℕ → List Bit → ℕ
cell_number v net inner columns digits = number v net (take inner digits) + columns * number v net (drop inner digits)

-- how many cells the first k digits tell apart
abbrev pub told_by : ℕ → ℕ → ℕ → ℕ
told_by inner columns k = cond (nat_lt k inner) (2 ^ k) (columns * 2 ^ (k - inner))

-- the digits spell this cell
pub record Spells (v : ℕ → Bool) (net : List NetNode) (places : Places) (k : ℕ) : Type 0 where
  pub column : number v net (take places.inner places.digits) < places.columns
  pub is : cell_number v net places.inner places.columns places.digits ≡ k

-- a place for each of `count` cells: under inputs that of the cell is true alone, and the digits spell it
pub record ArePlaced (old new : List NetNode) (ands count : ℕ) (cell : MaybeCell) (places : Places) : Type 0 where
  pub grown : Grown ands old new
  pub inside : AreIn new places.bits
  pub wide : length places.bits ≡ count
  pub digits_in : AreIn new places.digits
  pub some : 0 < places.columns
  pub is : (v : ℕ → Bool) → map (holds v new) places.bits ≡ marks (mark_of (cell v)) count
  pub below : (v : ℕ → Bool) (k : ℕ) → cell v ≡ Some k → k < count
  pub told : (v : ℕ → Bool) (k : ℕ) → cell v ≡ Some k → Spells v new places k

-- the cell of an index of a type, or of a row and a column, where a bit is true
abbrev pub index_of : List NetNode → ℕ → Bool → List Bit → MaybeCell
index_of net count signed index v = index_below count (read (length index) signed (number v net index))

abbrev pub index_where : List NetNode → Bit → ℕ → Bool → List Bit → MaybeCell
index_where net here count signed index v = cond (holds v net here) (index_of net count signed index v) None

abbrev pub row_where : List NetNode → Bit → ℕ → ℕ → Bool → List Bit → Bool → List Bit → MaybeCell
row_where net here rows columns signed_row row signed_column column v =
    cond (holds v net here) (in_row columns (index_of net rows signed_row row v) (index_of net columns signed_column column v)) None

-- and-nodes of the places of an index of this width among `count` cells
abbrev pub index_cost : ℕ → ℕ → ℕ
index_cost count width = 1 + 2 * (count + width)

-- of those of a row and a column, by the numbers of rows and columns
abbrev pub crossed_cost : ℕ → ℕ → ℕ → ℕ → ℕ
crossed_cost rows columns row_width column_width = index_cost rows row_width + (index_cost columns column_width + rows * columns)

-- of those of a row and a column, by the number of cells
abbrev pub row_cost : ℕ → ℕ → ℕ → ℕ
row_cost cells row_width column_width = 5 * cells + (2 * (row_width + column_width) + 2)

-- the number of an object's rows
abbrev pub rows_of : Program → ℕ → ℕ
rows_of p o = size_of_object p o / columns_of_object p o
