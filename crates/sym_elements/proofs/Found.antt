-- The places of a cell in an object: a run that is at none ends.
use Rattle.std.proofs.Common.{◌≡◌, ℕ, ◌+◌, ◌*◌, ◌<◌, ◌≤◌, Bool, true, false, cond, not, ◌&&◌, ℤ, List, length, map, refl, sym, ◌∙◌, ap, ap₂, subst, arith, Option, Some, None, is_some, true≢false}
use Rattle.c_core.specs.Tree.{Program}
use Rattle.c_core.specs.Types.{is_signed, width_of}
use Rattle.c_core.specs.declared.number.IntType.{IntType}
use Rattle.sym_meaning.specs.Judged as definition
use Rattle.c_meaning.specs.Objects.{size_of_object, columns_of_object}
use Rattle.c_meaning.specs.Run.{index_below, in_row}
use Rattle.sym_meaning.specs.Mode.{Mode}
use Rattle.circuits.specs.declared.net.Bit.{Bit}
use Rattle.circuits.specs.declared.net.NetNode.{NetNode}
use Rattle.circuits.specs.Net.{holds, Grown, Means}
use Rattle.circuits.specs.Numbers.{number, read, typed, AreTyped}
use Rattle.circuits.specs.Chosen.{AreAlike}
use Rattle.circuits.specs.Facts.{Condition}
use Rattle.circuits.proofs.Nets.{grown_then}
use Rattle.sym_state.specs.declared.state.Sym.{Sym}
use Rattle.sym_state.specs.Standing.{Stand, stand, IsState, Turned, IsHere, marks, stopped}
use Rattle.sym_state.specs.Following.{left_of, Came}
use Rattle.sym_state.proofs.Nets.{added_of, added_then, all_added, stand_grown}
use Rattle.sym_state.proofs.Composed.{turned_follows}
use Rattle.sym_elements.specs.declared.placing.Places.{Places}
use Rattle.sym_elements.specs.Marks.{IsNone, none_true, HasOne}
use Rattle.sym_elements.specs.Placing.{MaybeCell, mark_of, ArePlaced, Spells, index_of, index_where, row_where, rows_of}
use Rattle.sym_elements.specs.Elements.{key_at, ArePlaces, index_in, row_in, Finds}
use Rattle.sym_elements.proofs.Marking.{none_of_none, none_inside}
use Rattle.sym_elements.proofs.Decoding.{bools_added}
use Rattle.sym_elements.proofs.Spelling.{spells_added}
use Rattle.sym_elements.proofs.Kept.{first_is, place_is}

-- no mark is true where there is no cell
none_is : (o : Option ℕ) (n : ℕ) → ((k : ℕ) → o ≡ Some k → k < n) → none_true (marks (mark_of o) n) ≡ not (is_some o)
none_is None n h = none_of_none n
none_is (Some k) n h = none_inside k n (h k refl)

ends_not : (l t : Bool) → (l && not (not t)) ≡ true → t ≡ true
ends_not true true h = refl
ends_not true false h = absurd (true≢false (sym h))
ends_not false t h = absurd (true≢false (sym h))

some_cell : (o : Option ℕ) → is_some o ≡ true → (k : ℕ) × (o ≡ Some k)
some_cell None h = absurd (true≢false (sym h))
some_cell (Some k) h = (k, refl)

pub two_grown : {j k : ℕ} {a b c : List NetNode} → Grown j a b → Grown k b c → Grown (j + k) a c
two_grown {j} {k} {a} {b} {c} x y = grown_then j k (j + k) a b c x y (omega arith)

-- the places for the same cells
pub placed_as : {i m : ℕ} {old new : List NetNode} {cell other : MaybeCell} {places : Places} → ArePlaced old new i m cell places → ((v : ℕ → Bool) → cell v ≡ other v) → ArePlaced old new i m other places
placed_as {m = m} {cell = cell} {other = other} x e = record {
  grown = x.grown;
  inside = x.inside;
  wide = x.wide;
  digits_in = x.digits_in;
  some = x.some;
  is = λ v. x.is v ∙ ap (λ o. marks (mark_of o) m) (e v);
  below = λ v k q. x.below v k (e v ∙ q);
  told = λ v k q. x.told v k (e v ∙ q);
}

-- a circuit that ends runs outside
pub outside_turned : {s n : Sym} {net : List NetNode} {outside : Bit} (p : Program) (places : List Bit) → IsState p s → IsNone s.net net places outside → Turned p 1 0 (record s { net = net }) n (λ v. stopped (holds v net outside))
    → Turned p (length places + 1) 0 s n (λ v. stopped (none_true (map (holds v s.net) places)))
outside_turned p places fits none x = record {
  fits = x.fits;
  added = added_then (length places + 1) 0 (added_of none.grown) x.added (omega arith) (omega arith);
  level = x.level;
  result = x.result;
  is = λ v. x.is v ∙ ap₂ stopped (none.means.is v) (stand_grown p v none.grown fits);
}

module _ (p : Program) (W : Mode) (o cost : ℕ) {i m : ℕ} {s n : Sym} {net : List NetNode} {cell : MaybeCell} {places : Places} (fits : IsState p s) (made : ArePlaced s.net net i m cell places) (few : m ≤ size_of_object p o)
    (x : Turned p (length places.bits + 1) 0 (record s { net = net }) n (λ v. stopped (none_true (map (holds v net) places.bits)))) (enough : i + (m + 1) ≤ cost) where
  abbrev inside : (ℕ → Bool) → Bool
  inside v = is_some (cell v)

  whole : Turned p cost 0 s n (λ v. stopped (not (inside v)))
  whole = record {
    fits = x.fits;
    added = added_then cost 0 (added_of made.grown) x.added (omega (arith, made.wide, enough)) (omega arith);
    level = x.level;
    result = x.result;
    is = λ v. x.is v ∙ ap₂ stopped (ap none_true (made.is v) ∙ none_is (cell v) m (made.below v)) (stand_grown p v made.grown fits);
  }

  is_inside : (v : ℕ → Bool) → holds v n.net n.live ≡ true → (k : ℕ) × (cell v ≡ Some k)
  is_inside v live = some_cell (cell v) (ends_not (stand p v s).live (inside v) (sym (ap (λ z. z.live) (whole.is v)) ∙ live))

  one_place : (v : ℕ → Bool) (k : ℕ) → cell v ≡ Some k → HasOne (length places.bits) (map (holds v n.net) places.bits)
  one_place v k e = (
    k,
    omega (arith, made.below v k e, made.wide),
    bools_added v places.bits x.added made.inside ∙ made.is v ∙ ap₂ (λ c w. marks (mark_of c) w) e (sym made.wide),
  )

  found_places : ArePlaces p n o places
  unfolding one_place is_inside
  found_places = record {
    inside = all_added x.added places.bits made.inside;
    few = omega (arith, made.wide, few);
    some = made.some;
    one = λ v live. let q = is_inside v live in one_place v q.0 q.1;
    digits_in = all_added x.added places.digits made.digits_in;
    told = λ v live.
        let q = is_inside v live in
        subst (Spells v n.net places) (sym (first_is (one_place v q.0 q.1))) (spells_added v x.added made.digits_in (made.told v q.0 q.1));
  }

  dead : (v : ℕ → Bool) (a : Stand) (t : Bool) → a.live ≡ false → stopped t a ≡ a
  dead v a t h = λ j. record a { live = (ap (λ l. l && not t) h ∙ sym h) j }

  goes : (v : ℕ → Bool) (a : Stand) (rest : List ℤ) → IsHere (length W.duties) a → (c : Option ℕ) → cell v ≡ c
      → Came W.duties (λ k. k ≡ key_at o v n.net places.bits) (stopped (not (is_some c)) a) rest (definition.key_of o c (left_of a rest))
  unfolding one_place
  goes v a rest h (Some k) e = (
    record { live = ap (λ l. l && true) h.live; broken = h.broken; again = h.again; gave = h.gave; failing = h.failing },
    refl,
    sym (place_is o places.bits n v (one_place v k e)),
  )
  goes v a rest h None e = (record { live = and_never a.live; broken = h.broken; again = h.again; gave = h.gave; failing = h.failing }, refl, refl)
    where
      and_never : (l : Bool) → (l && false) ≡ false
      and_never true = refl
      and_never false = refl

  pub finds : Finds p W o cost cell s n places
  finds = record {
    places_of = found_places;
    follows = turned_follows p W.duties (λ v. stopped (not (inside v))) whole (λ v. refl) (λ v d. dead v (stand p v s) (not (inside v)) d) (λ v h rest. goes v (stand p v s) rest h (cell v) refl);
  }

-- the same cell wherever a run is
pub finds_as : {o cost : ℕ} {cell other : MaybeCell} {s n : Sym} {places : Places} (p : Program) (W : Mode) → Finds p W o cost cell s n places → ((v : ℕ → Bool) → holds v s.net s.live ≡ true → cell v ≡ other v) → Finds p W o cost other s n places
finds_as {o} {other = other} {s = s} {n = n} {places = places} p W x same = record {
  places_of = x.places_of;
  follows = record {
    fits = x.follows.fits;
    added = x.follows.added;
    level = x.follows.level;
    result = x.follows.result;
    moves = x.follows.moves;
    does = λ v here vs rest taken.
        subst (λ c. Came W.duties (λ k. k ≡ key_at o v n.net places.bits) (stand p v n) rest (definition.key_of o c (left_of (stand p v s) vs))) (same v here.live) (x.follows.does v here vs rest taken);
  };
}

-- ---- the cells of an index, and of a row and a column
-- an index of a type
pub typed_index : (p : Program) {net : List NetNode} (ty : IntType) (bits : List Bit) (n : ℕ) (v : ℕ → Bool) → AreTyped p.model ty net bits → index_of net n (is_signed ty) bits v ≡ index_below n (typed p.model ty v net bits)
typed_index p {net} ty bits n v h = ap (λ w. index_below n (read w (is_signed ty) (number v net bits))) h.wide

wherever : {net : List NetNode} {yes : Bit} → Means net yes (λ v. true) → (v : ℕ → Bool) (c : Option ℕ) → cond (holds v net yes) c None ≡ c
wherever always v c = ap (λ t. cond t c None) (always.is v)

module _ (p : Program) (s : Sym) where
  pub index_found : {i : ℕ} {net : List NetNode} {yes : Bit} {places : Places} → Means s.net yes (λ v. true) → (o : ℕ) (ty : IntType) (index : List Bit) → AreTyped p.model ty s.net index
      → ArePlaced s.net net i (size_of_object p o) (index_where s.net yes (size_of_object p o) (is_signed ty) index) places → ArePlaced s.net net i (size_of_object p o) (index_in p o ty index s) places
  index_found always o ty index h x = placed_as x (λ v. wherever always v (index_of s.net (size_of_object p o) (is_signed ty) index v) ∙ typed_index p ty index (size_of_object p o) v h)

  pub row_found : {i : ℕ} {net : List NetNode} {yes : Bit} {places : Places} → Means s.net yes (λ v. true) → (o : ℕ) (row_type column_type : IntType) (row column : List Bit) → AreTyped p.model row_type s.net row → AreTyped p.model column_type s.net column
      → ArePlaced s.net net i (rows_of p o * columns_of_object p o) (row_where s.net yes (rows_of p o) (columns_of_object p o) (is_signed row_type) row (is_signed column_type) column) places
      → ArePlaced s.net net i (rows_of p o * columns_of_object p o) (row_in p o row_type row column_type column s) places
  row_found always o row_type column_type row column hr hc x =
      let c = columns_of_object p o in
      placed_as x
      (λ v.
      wherever always v (in_row c (index_of s.net (rows_of p o) (is_signed row_type) row v) (index_of s.net c (is_signed column_type) column v))
      ∙ ap₂ (in_row c) (typed_index p row_type row (rows_of p o) v hr) (typed_index p column_type column c v hc))

pub alike_index : {here : Condition} {index rest : List Bit} (p : Program) (s : Sym) (o : ℕ) (ty : IntType) → AreAlike s.net here index rest → (v : ℕ → Bool) → here v ≡ true → index_in p o ty rest s v ≡ index_in p o ty index s v
alike_index p s o ty a v h = ap (λ n. index_below (size_of_object p o) (read (width_of p.model ty) (is_signed ty) n)) (sym (a.is v h))

pub alike_row : {here : Condition} {row row_rest column column_rest : List Bit} (p : Program) (s : Sym) (o : ℕ) (row_type column_type : IntType) → AreAlike s.net here row row_rest → AreAlike s.net here column column_rest
    → (v : ℕ → Bool) → here v ≡ true → row_in p o row_type row_rest column_type column_rest s v ≡ row_in p o row_type row column_type column s v
alike_row p s o row_type column_type a b v h =
    ap₂ (λ n m. in_row (columns_of_object p o) (index_below (rows_of p o) (read (width_of p.model row_type) (is_signed row_type) n)) (index_below (columns_of_object p o) (read (width_of p.model column_type) (is_signed column_type) m)))
    (sym (a.is v h)) (sym (b.is v h))
