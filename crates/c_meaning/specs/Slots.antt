-- Where the innermost cell of each name stands: for names of a layout in a list of places, for others in a table with open addressing and searches from a name's home on.
use Rattle.std.specs.Prelude.{ℕ, ◌+◌, ◌*◌, ◌/◌, ◌%◌, ◌^◌, ◌<◌, ◌≤◌, ◌≡◌, nat_lt, Bool, true, false, cond, List, [], ◌∷◌, length, reverse, map, slice_set, slice_index_or, Option, Some, None, is_none}
use Rattle.c_meaning.specs.Cells.{Key, same_key}
use Rattle.c_meaning.specs.Layout.{Rising, number_of}
use Rattle.c_meaning.specs.declared.memory.Live.{Live}
use Rattle.c_meaning.specs.declared.slots.Entry.{Entry}

-- a live cell's name, and the place of the cell that it hides, if any
pub record Named : Type 0 where
  pub key : Key
  pub hides : Option ℕ

abbrev pub name_of : Live → Named
name_of l = record { key = record { object = l.object; index = l.index }; hides = l.hides }

-- the newest first
abbrev pub names_of : List Live → List Named
names_of ls = reverse (map name_of ls)

-- where the innermost cell of a name stands, counted from the oldest
abbrev pub place_of : Key → List Named → Option ℕ
place_of k [] = None
place_of k (c ∷ cs) = cond (same_key c.key k) (Some (length cs)) (place_of k cs)

-- each cell keeps the place of the one that it hides
abbrev pub Chained : List Named → Type 0
Chained [] = Unit {0}
Chained (c ∷ cs) = (c.hides ≡ place_of c.key cs) × Chained cs

abbrev pub key_of : Entry → Key
key_of e = record { object = e.object; index = e.index }

abbrev pub entry_of : Key → ℕ → Entry
entry_of k n = record { object = k.object; index = k.index; place = n }

-- what stands in a name's slot, where its innermost cell stands at a place, if any
abbrev pub slot_of : Key → Option ℕ → Option Entry
slot_of k None = None
slot_of k (Some n) = Some (entry_of k n)

abbrev pub place_in : Option Entry → Option ℕ
place_in None = None
place_in (Some e) = Some e.place

-- the first slot that is searched, of this many: neighbours in either number lie far apart (the factors are powers of the plastic number's inverse)
unfoldable pub home_of : Key → ℕ → ℕ
home_of k size = (k.object * 13925035116211876495 % 2 ^ 64 + k.index * 10511698010929265437 % 2 ^ 64) % 2 ^ 64 * size / 2 ^ 64

-- slots are searched from the home on, and then from the first one: when the turn of each comes
abbrev pub turn : ℕ → ℕ → ℕ → ℕ
turn home size i = cond (nat_lt i home) (i + size) i

-- a search ends at a free slot, or at the name's entry
abbrev pub stops : Key → Option Entry → Bool
stops k None = true
stops k (Some e) = same_key (key_of e) k

abbrev pub slot : List (Option Entry) → ℕ → Option Entry
slot t i = slice_index_or t i None

-- no slot from an index on, up to another, ends a search
abbrev pub Passes : Key → List (Option Entry) → ℕ → ℕ → Type 0
Passes k t from to = (i : ℕ) → from ≤ i → i < to → stops k (slot t i) ≡ false

-- the first slot from an index on, up to another, that ends a search
pub record IsNext (k : Key) (t : List (Option Entry)) (from to i : ℕ) : Type 0 where
  pub above : from ≤ i
  pub below : i < to
  pub here : stops k (slot t i) ≡ true
  pub passes : Passes k t from i

-- the slot, of this many, at which a search ends
pub record Ends (k : Key) (size : ℕ) (t : List (Option Entry)) (i : ℕ) : Type 0 where
  pub within : i < size
  pub here : stops k (slot t i) ≡ true
  pub first : (j : ℕ) → j < size → turn (home_of k size) size j < turn (home_of k size) size i → stops k (slot t j) ≡ false

-- a table after an entry came to it
pub record Enters (e : Entry) (size : ℕ) (old new : List (Option Entry)) : Type 0 where
  pub i : ℕ
  pub ends : Ends (key_of e) size old i
  pub written : new ≡ slice_set old i (Some e)

-- the table, with this many slots, of these entries, the newest first, which came one by one
abbrev pub IsTable : ℕ → List Entry → List (Option Entry) → Type 0
IsTable size [] t = (length t ≡ size) × ((i : ℕ) → slot t i ≡ None)
IsTable size (e ∷ es) t = (old : List (Option Entry)) × IsTable size es old × Enters e size old t

-- the place in the newest entry of a name
abbrev pub place_among : Key → List Entry → Option ℕ
place_among k [] = None
place_among k (e ∷ es) = cond (same_key (key_of e) k) (Some e.place) (place_among k es)

-- the entries of the cells whose names have no number
abbrev pub outside : List ℕ → List Named → List Entry
outside starts [] = []
outside starts (c ∷ cs) = cond (is_none (number_of starts c.key)) (entry_of c.key (length cs) ∷ outside starts cs) (outside starts cs)

-- under each name's number its innermost cell's place, if one is live
abbrev pub IsPlaced : List ℕ → List Named → List (Option ℕ) → Type 0
IsPlaced starts cs places = (k : Key) (n : ℕ) → number_of starts k ≡ Some n → (n < length places) × (slice_index_or places n None ≡ place_of k cs)

abbrev pub free : List (Option Entry) → ℕ
free [] = 0
free (x ∷ t) = cond (is_none x) 1 0 + free t

-- names of the layout have places, and other names a table with at most half of its slots taken, so that each search ends
pub record IsKept (starts : List ℕ) (places : List (Option ℕ)) (cs : List Named) (t : List (Option Entry)) : Type 0 where
  pub rising : Rising starts
  pub placed : IsPlaced starts cs places
  pub table : IsTable (length t) (outside starts cs) t
  pub chained : Chained cs
  pub half : length cs ≤ length t / 2
