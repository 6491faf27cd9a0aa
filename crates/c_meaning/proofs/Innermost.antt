-- The innermost of a list's live cells of one name.
use Rattle.std.proofs.Common.{◌≡◌, ℕ, zero, suc, ◌<◌, ◌≤◌, ℤ, pos, List, [], ◌∷◌, ◌++◌, length, take, drop, get_or, Bool, true, false, ◌||◌, Some, None, cond, nat_eq, eq-eqb, eqb-true, refl, sym, ap, ◌∙◌, arith, slice_set}
use Rattle.std.proofs.lemmas.Bool.{and_parts, and_from}
use Rattle.std.specs.Prelude.{slice_index_or, unwrap_or}
use Rattle.c_meaning.specs.Cells.{Key, Cell, same_key, live, read, put, found}
use Rattle.c_meaning.specs.Memory.{cell_of, cells_of, no_cell}
use Rattle.c_meaning.specs.declared.memory.Live.{Live}

-- names with the same numbers are the same
pub keys_same : (a b : Key) → a.object ≡ b.object → a.index ≡ b.index → a ≡ b
keys_same a b e f = ap (λ (o : ℕ). record a { object = o }) e ∙ ap (λ (i : ℕ). record b { index = i }) f

pub same_key_is : (a b : Key) → same_key a b ≡ true → a ≡ b
same_key_is a b h = let p = and_parts (nat_eq a.object b.object) (nat_eq a.index b.index) h in
    keys_same a b (eqb-true a.object b.object p.0) (eqb-true a.index b.index p.1)

pub same_key_self : (k : Key) → same_key k k ≡ true
same_key_self k = and_from (nat_eq k.object k.object) (nat_eq k.index k.index) (eq-eqb k.object k.object refl) (eq-eqb k.index k.index refl)

pub length_cells : (ls : List Live) → length (cells_of ls) ≡ length ls
length_cells [] = refl
length_cells (l ∷ ls) = ap suc (length_cells ls)

-- no cells are seen where none are held
pub no_cells : (ls : List Live) → cells_of ls ≡ [] → ls ≡ []
no_cells [] h = refl
no_cells (l ∷ ls) h = absurd (cc)

pub cells_append : (ls : List Live) (l : Live) → cells_of (ls ++ l ∷ []) ≡ cells_of ls ++ cell_of l ∷ []
cells_append [] l = refl
cells_append (x ∷ ls) l = ap (λ cs. cell_of x ∷ cs) (cells_append ls l)

pub cells_take : (n : ℕ) (ls : List Live) → cells_of (take n ls) ≡ take n (cells_of ls)
cells_take zero ls = refl
cells_take (suc n) [] = refl
cells_take (suc n) (l ∷ ls) = ap (λ cs. cell_of l ∷ cs) (cells_take n ls)

pub cell_at : (ls : List Live) (i : ℕ) (d : Live) → i < length ls → slice_index_or (cells_of ls) i no_cell ≡ cell_of (get_or ls i d)
cell_at [] i d h = absurd (omega arith)
cell_at (l ∷ ls) zero d h = refl
cell_at (l ∷ ls) (suc i) d h = let k : i < length ls = omega arith in cell_at ls i d k

pub cells_set : (ls : List Live) (i : ℕ) (l : Live) → cells_of (slice_set ls i l) ≡ slice_set (cells_of ls) i (cell_of l)
cells_set [] i l = refl
cells_set (x ∷ ls) zero l = refl
cells_set (x ∷ ls) (suc i) l = ap (λ cs. cell_of x ∷ cs) (cells_set ls i l)

or_true : (b : Bool) → (b || true) ≡ true
or_true true = refl
or_true false = refl

pub live_at : (k : Key) (cs : List Cell) (i : ℕ) → i < length cs → same_key (slice_index_or cs i no_cell).key k ≡ true → live k cs ≡ true
live_at k [] i h same = absurd (omega arith)
live_at k (c ∷ cs) zero h same = rw same refl
live_at k (c ∷ cs) (suc i) h same =
    let j : i < length cs = omega arith in
    ap (λ b. same_key c.key k || b) (live_at k cs i j same) ∙ or_true (same_key c.key k)

pub read_at : (k : Key) (cs : List Cell) (i : ℕ) → i < length cs → same_key (slice_index_or cs i no_cell).key k ≡ true →
    live k (drop (suc i) cs) ≡ false → read k cs ≡ (slice_index_or cs i no_cell).value
read_at k [] i h same none = absurd (omega arith)
read_at k (c ∷ cs) zero h same none = rw (none, same) refl
read_at k (c ∷ cs) (suc i) h same none =
    let j : i < length cs = omega arith in
    rw (live_at k cs i j same) (read_at k cs i j same none)

pub found_at : (k : Key) (cs : List Cell) (i : ℕ) → i < length cs → same_key (slice_index_or cs i no_cell).key k ≡ true →
    live k (drop (suc i) cs) ≡ false → found k cs ≡ Some (slice_index_or cs i no_cell).value
found_at k cs i h same none = rw (live_at k cs i h same) (ap Some (read_at k cs i h same none))

pub put_at : (k : Key) (v : ℤ) (cs : List Cell) (i : ℕ) → i < length cs → same_key (slice_index_or cs i no_cell).key k ≡ true →
    live k (drop (suc i) cs) ≡ false → put k v cs ≡ slice_set cs i (record (slice_index_or cs i no_cell) { value = v })
put_at k v [] i h same none = absurd (omega arith)
put_at k v (c ∷ cs) zero h same none = rw (none, same) refl
put_at k v (c ∷ cs) (suc i) h same none =
    let j : i < length cs = omega arith in
    rw (live_at k cs i j same) (ap (λ ds. c ∷ ds) (put_at k v cs i j same none))

pub found_none : (k : Key) (cs : List Cell) → live k cs ≡ false → found k cs ≡ None
found_none k cs none = rw none refl

neither : (a b : Bool) → (a || b) ≡ false → (a ≡ false) × (b ≡ false)
neither true b h = absurd (cc)
neither false b h = (refl, h)

pub put_none : (k : Key) (v : ℤ) (cs : List Cell) → live k cs ≡ false → put k v cs ≡ cs
put_none k v [] none = refl
put_none k v (c ∷ cs) none = let n = neither (same_key c.key k) (live k cs) none in rw (n.1, n.0) refl

pub read_none : (k : Key) (cs : List Cell) → live k cs ≡ false → read k cs ≡ pos 0
read_none k [] none = refl
read_none k (c ∷ cs) none = let n = neither (same_key c.key k) (live k cs) none in rw (n.1, n.0) refl

-- what is read where none is found
pub unfound : (k : Key) (cs : List Cell) → unwrap_or (found k cs) (pos 0) ≡ read k cs
unfound k cs = by_live (live k cs) refl
  where
    by_live : (b : Bool) → live k cs ≡ b → unwrap_or (cond (live k cs) (Some (read k cs)) None) (pos 0) ≡ read k cs
    by_live true h = rw h refl
    by_live false h = rw h (sym (read_none k cs h))

pub none_past : (k : Key) (cs : List Cell) (n : ℕ) → length cs ≤ n → live k (drop n cs) ≡ false
none_past k [] zero h = refl
none_past k [] (suc n) h = refl
none_past k (c ∷ cs) zero h = absurd (omega arith)
none_past k (c ∷ cs) (suc n) h = let j : length cs ≤ n = omega arith in none_past k cs n j
