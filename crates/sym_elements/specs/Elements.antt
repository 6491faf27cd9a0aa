-- Elements of arrays over a symbolic state (C11 6.5.2.1).
--
-- Where a run is in an array depends on the inputs. So each cell of the array has a bit, its place, that is true in the runs whose index is
-- the cell's. The places are found once for a target; a run whose index lies outside its dimension ends there (C11 6.5.6p8). Then the target
-- is written by them, and read by the indexes' binary digits, which spell the same cell.
use Rattle.std.specs.Prelude.{◌≡◌, ℕ, ◌+◌, ◌-◌, ◌*◌, ◌<◌, ◌≤◌, Bool, true, ℤ, List, length, map, take}
use Rattle.c_core.specs.Tree.{Program}
use Rattle.c_core.specs.Types.{width_of}
use Rattle.c_core.specs.declared.number.IntType.{IntType}
use Rattle.c_meaning.specs.Cells.{Key, read}
use Rattle.c_meaning.specs.Eval.{store}
use Rattle.sym_meaning.specs.Judged as definition
use Rattle.sym_meaning.specs.Mode.{Mode}
use Rattle.sym_meaning.specs.Judged.{judged}
use Rattle.c_meaning.specs.Objects.{type_of_object, size_of_object, columns_of_object}
use Rattle.c_meaning.specs.Run.{index_below, in_row}
use Rattle.circuits.specs.declared.net.Bit.{Bit}
use Rattle.circuits.specs.declared.net.NetNode.{NetNode}
use Rattle.circuits.specs.Net.{holds}
use Rattle.circuits.specs.Numbers.{number, typed, AreIn, AreTyped}
use Rattle.circuits.specs.Outcome.{conversion_cost}
use Rattle.sym_state.specs.declared.state.Sym.{Sym}
use Rattle.sym_state.specs.Places.{key}
use Rattle.sym_state.specs.Standing.{stand, Turned}
use Rattle.sym_state.specs.Following.{Deed, Follows}
use Rattle.sym_elements.specs.declared.placing.Places.{Places}
use Rattle.sym_elements.specs.Marks.{HasOne, first_true}
use Rattle.sym_elements.specs.Placing.{MaybeCell, Spells, cell_number, rows_of}

-- the cell of the first place that is true
abbrev pub key_at : ℕ → (ℕ → Bool) → List NetNode → List Bit → Key
key_at o v net places = key o (first_true (map (holds v net) places))

-- a place for each cell of an object, or for no more; of a run that is here exactly one is true, and the digits spell that cell
pub record ArePlaces (p : Program) (s : Sym) (o : ℕ) (places : Places) : Type 0 where
  pub inside : AreIn s.net places.bits
  pub few : length places.bits ≤ size_of_object p o
  pub some : 0 < places.columns
  pub one : (v : ℕ → Bool) → holds v s.net s.live ≡ true → HasOne (length places.bits) (map (holds v s.net) places.bits)
  pub digits_in : AreIn s.net places.digits
  pub told : (v : ℕ → Bool) → holds v s.net s.live ≡ true → Spells v s.net places (first_true (map (holds v s.net) places.bits))

module _ (p : Program) where
  -- bits of each cell of an object
  abbrev pub width_of_element : ℕ → ℕ
  width_of_element o = width_of p.model (type_of_object p o)

  -- and-nodes of the places, by an index of a type
  abbrev pub found_cost : IntType → ℕ → ℕ
  found_cost ty o = 3 * size_of_object p o + (2 * width_of p.model ty + 2)

  -- and by a row and a column of two types
  abbrev pub found_row_cost : IntType → IntType → ℕ → ℕ
  found_row_cost row column o = 6 * size_of_object p o + (2 * (width_of p.model row + width_of p.model column) + 3)

  -- of a tree of choices among this many elements
  abbrev pub picked_cost : ℕ → ℕ → ℕ
  picked_cost o count = (count - 1) * (4 * width_of_element o)

  -- of an element that is read: a choice for each cell at most
  abbrev pub read_cost : ℕ → ℕ
  read_cost o = size_of_object p o * (4 * width_of_element o)

  -- of an element that is written
  abbrev pub written_cost : ℕ → ℕ
  written_cost o = size_of_object p o * (4 * width_of_element o + 1)

  -- of a value of a type that is stored in an element
  abbrev pub stored_cost : IntType → ℕ → ℕ
  stored_cost from o = conversion_cost p.model from (type_of_object p o) + written_cost o

  -- wherever the cell n that the digits spell is below the count, the bits are the element at low + n; nothing changes but the net
  pub record IsPicked (o inner columns low count : ℕ) (digits : List Bit) (old new : Sym) (bits : List Bit) : Type 0 where
    pub turned : Turned p (picked_cost o count) 0 old new (λ v s. s)
    pub bits_in : AreTyped p.model (type_of_object p o) new.net bits
    pub is : (v : ℕ → Bool) → number v old.net (take inner digits) < columns → cell_number v old.net inner columns digits < count
        → typed p.model (type_of_object p o) v new.net bits ≡ read (key o (low + cell_number v old.net inner columns digits)) (stand p v old).cells

  -- the cell of an index of a type, and of a row and a column, each within its own dimension
  abbrev pub index_in : ℕ → IntType → List Bit → Sym → MaybeCell
  index_in o ty index s v = index_below (size_of_object p o) (typed p.model ty v s.net index)

  abbrev pub row_in : ℕ → IntType → List Bit → IntType → List Bit → Sym → MaybeCell
  row_in o row_type row column_type column s v =
      in_row (columns_of_object p o) (index_below (rows_of p o) (typed p.model row_type v s.net row))
      (index_below (columns_of_object p o) (typed p.model column_type v s.net column))

  -- W: the mode
  module _ (W : Mode) where
    -- to a cell, or to the end where there is none (C11 6.5.6p8)
    abbrev pub found_in : ℕ → MaybeCell → Deed Key
    found_in o cell v s = definition.key_of o (cell v) s

    -- the cell that the places tell of is read
    abbrev pub read_in : ℕ → List Bit → Sym → Deed ℤ
    read_in o places old v s = (judged p W).look (key_at o v old.net places) s

    -- a value of a type is converted to the object's, and stored in that cell
    abbrev pub stored_in : ℕ → List Bit → IntType → List Bit → Sym → Deed ℤ
    stored_in o places from value old v s = store p (judged p W) (key_at o v old.net places) from (type_of_object p o) (typed p.model from v old.net value) s

    -- a run that is here goes on at the cell that its place tells of, or ends
    pub record Finds (o cost : ℕ) (cell : MaybeCell) (old new : Sym) (places : Places) : Type 0 where
      pub places_of : ArePlaces p new o places
      pub follows : Follows W.duties p cost 0 old new (λ v k. k ≡ key_at o v new.net places.bits) (found_in o cell)
