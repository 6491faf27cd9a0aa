-- The element at an index, or at a row and a column: where each has a value that isn't outside, what the cell holds.
use Rattle.std.proofs.Common.{◌≡◌, ℕ, zero, suc, ◌+◌, ◌-◌, ◌*◌, ◌≤◌, ◌<◌, ◌^◌, Bool, true, false, cond, not, ◌&&◌, nat_lt, nat_eq, eqb-true, ℤ, List, length, get_or, map, refl, sym, ◌∙◌, ap, ap₂, subst, arith, Option, Some, None, IfSome, is_some}
use Rattle.std.proofs.Math.Nat.{mul-le-mul_left}
use Rattle.std.proofs.lemmas.Bool.{eqb-false}
use Rattle.std.proofs.lemmas.List.{get_or-map}
use Rattle.std.proofs.lemmas.List.Elements.{All-get_or}
use Rattle.c_core.specs.Tree.{Program}
use Rattle.c_core.specs.Types.{width_of, is_signed, fit}
use Rattle.c_core.specs.declared.number.IntType.{IntType}
use Rattle.c_meaning.specs.Cells.{Cell, live}
use Rattle.c_meaning.specs.Cells.{read as read_cell}
use Rattle.c_meaning.specs.Objects.{type_of_object, size_of_object, columns_of_object}
use Rattle.c_meaning.specs.Run.{index_below, in_row}
use Rattle.c_meaning.specs.Value.{and_then, seen_at, seen_in, seen_in_row}
use Rattle.circuits.specs.declared.net.Bit.{Bit}
use Rattle.circuits.specs.declared.net.NetNode.{NetNode}
use Rattle.circuits.specs.Net.{holds, opposite, Grown, Means, IsIn}
use Rattle.circuits.specs.Numbers.{typed, AreIn, AreTyped}
use Rattle.circuits.proofs.Nets.{means_by, opp}
use Rattle.sym_state.specs.declared.state.Sym.{Sym}
use Rattle.sym_state.specs.Places.{key, live_in}
use Rattle.sym_state.specs.Standing.{stand, IsState, marks}
use Rattle.sym_state.proofs.Nets.{unchanged, longer_by, added_of, in_added, holds_added}
use Rattle.sym_values.specs.Valuing.{Decided}
use Rattle.sym_values.proofs.Reckoning.{net_turned}
use Rattle.sym_elements.specs.declared.placing.Places.{Places}
use Rattle.sym_elements.specs.Elements.{IsPicked}
use Rattle.sym_elements.specs.Placing.{MaybeCell, mark_of, ArePlaced, index_where, row_where, rows_of, index_cost, row_cost}
use Rattle.sym_elements.proofs.Spelling.{spells_added}
use Rattle.sym_elements.proofs.Found.{two_grown, typed_index}
use Rattle.sym_elements.proofs.Marking.{none_at, mark_at}
use Rattle.sym_invariants.specs.Valued.{Perhaps, IsSeen, Sees, seen_last, held_in, seen_cell, cell_cost, element_cost, row_element_cost}
use Rattle.sym_invariants.proofs.Cells.{typed_kept, same_live, seen_live, seen_dead, there_is_live}
use Rattle.sym_invariants.proofs.Deciding.{either_there}
use Rattle.sym_invariants.proofs.Seeing.{means_added, seen_as, seen_added, sees_within, turned_after, same_cells}

-- ---- the last cell whose place is true

last_none : (b : ℕ → Bool) (f : ℕ → Option ℤ) → ((i : ℕ) → b i ≡ false) → (n : ℕ) → seen_last b f n ≡ None
last_none b f e zero = refl
last_none b f e (suc n) = ap (λ t. cond t (f n) (seen_last b f n)) (e n) ∙ last_none b f e n

last_one : (b : ℕ → Bool) (f : ℕ → Option ℤ) (k : ℕ) → ((i : ℕ) → b i ≡ nat_eq k i) → (n : ℕ) → k < n → seen_last b f n ≡ f k
last_one b f k e zero h = absurd (omega (arith, h))
last_one b f k e (suc n) h = by_case (nat_eq k n) refl (λ lt. last_one b f k e n lt)
  where
    by_case : (t : Bool) → nat_eq k n ≡ t → (k < n → seen_last b f n ≡ f k) → cond (b n) (f n) (seen_last b f n) ≡ f k
    by_case true q g = ap (λ t. cond t (f n) (seen_last b f n)) (e n ∙ q) ∙ ap f (sym (eqb-true k n q))
    by_case false q g = ap (λ t. cond t (f n) (seen_last b f n)) (e n ∙ q) ∙ g (less (eqb-false k n q))
      where
        less : (k ≡ n → ⊥) → k < n
        less d = omega (arith, h, d)

-- of marks of a cell
cell_value : (n : ℕ) (o : Option ℕ) (f : ℕ → Option ℤ) → ((k : ℕ) → o ≡ Some k → k < n) → seen_last (λ i. get_or (marks (mark_of o) n) i false) f n ≡ and_then o f
cell_value n None f h = last_none (λ i. get_or (marks 0 n) i false) f (none_at n) n
cell_value n (Some m) f h = last_one (λ i. get_or (marks (suc m) n) i false) f m (λ i. mark_at m n i (h m refl)) n (h m refl)

-- where there is a cell, what holds of what it holds
value_number : (o : Option ℕ) (f : ℕ → Option ℤ) (P : ℤ → Type 0) → ((k : ℕ) → o ≡ Some k → IfSome (f k) P) → IfSome (and_then o f) P
value_number None f P h = tt
value_number (Some k) f P h = h k refl

-- the cell of an index, if it has a value
index_seen : (h : Bool) (n : ℕ) (z : ℤ) (o : Option ℤ) (g : ℕ → Option ℤ) → h ≡ is_some o → IfSome o (λ x. x ≡ z) → and_then (cond h (index_below n z) None) g ≡ and_then o (λ j. and_then (index_below n j) g)
index_seen h n z None g e q = ap (λ t. and_then (cond t (index_below n z) None) g) e
index_seen h n z (Some x) g e q = ap₂ (λ t y. and_then (cond t (index_below n y) None) g) e (sym q)

-- and of a row and a column, if both have one
row_seen : (h : Bool) (r c : ℕ) (x y : ℤ) (a b : Option ℤ) (g : ℕ → Option ℤ) → h ≡ (is_some a && is_some b) → IfSome a (λ z. z ≡ x) → IfSome b (λ z. z ≡ y)
    → and_then (cond h (in_row c (index_below r x) (index_below c y)) None) g ≡ and_then a (λ i. and_then b (λ j. and_then (in_row c (index_below r i) (index_below c j)) g))
row_seen h r c x y None b g e p q = ap (λ t. and_then (cond t (in_row c (index_below r x) (index_below c y)) None) g) e
row_seen h r c x y (Some i) None g e p q = ap (λ t. and_then (cond t (in_row c (index_below r x) (index_below c y)) None) g) e
row_seen h r c x y (Some i) (Some j) g e p q =
    ap (λ t. and_then (cond t (in_row c (index_below r x) (index_below c y)) None) g) e
    ∙ ap₂ (λ z w. and_then (in_row c (index_below r z) (index_below c w)) g) (sym p) (sym q)

-- the choices among all cells, and what the bits cost that say where one is live
tree_within : (m n w : ℕ) → m ≤ n → 3 * m + (m - 1) * (4 * w) ≤ n * (4 * w + 3)
tree_within m n w h =
    let q : (4 * w + 3) * m ≤ (4 * w + 3) * n = mul-le-mul_left (4 * w + 3) h in
    let r : 4 * w * (m - 1) ≤ 4 * w * m = mul-le-mul_left (4 * w) (omega arith) in
    omega (arith, q, r)

module _ (p : Program) (o : ℕ) where
  -- ---- is the cell live whose place is true?

  -- after i cells
  abbrev pub LiveFirst : List Bit → Sym → Sym → Bit → ℕ → Type 0
  LiveFirst places s n d i = Decided p (3 * i) s n d (λ v. is_some (held_in p o s places i v))

  pub live_none : {s : Sym} {always d : Bit} (places : List Bit) → IsState p s → Means s.net always (λ v. true) → d ≡ opposite always → LiveFirst places s s d 0
  live_none {s} places h y e = record { turned = record { fits = h; added = unchanged _ s.net; level = refl; result = refl; is = λ v. refl }; means = opp e y }

  pub live_room : {s n : Sym} {d : Bit} {i : ℕ} (places : List Bit) → LiveFirst places s n d i → i < length places → length s.net + 3 * length places < 2 ^ 27 → length n.net < 2 ^ 28
  live_room places x h room = omega (arith, (longer_by x.turned.added).1, h, room)

  pub place_in : {s n : Sym} {d : Bit} {i : ℕ} (places : List Bit) (b : Bit) → LiveFirst places s n d i → AreIn s.net places → i < length places → IsIn n.net (get_or places i b)
  place_in {s} {i = i} places b x inside h = in_added x.turned.added (get_or places i b) (All-get_or (λ z. IsIn s.net z) places i b h inside)

  pub live_next : {s m n : Sym} {held d r here : Bit} {i : ℕ} (places : List Bit) (b : Bit) → LiveFirst places s m d i → AreIn s.net places → i < length places → here ≡ get_or places i b
      → Means m.net held (λ v. live_in o i m.cells.items) → Decided p 3 m n r (λ v. cond (holds v m.net here) (holds v m.net held) (holds v m.net d)) → LiveFirst places s n r (i + 1)
  live_next {s} {m} {n} {held} {d} {r} {here} {i} places b x inside h e y g =
      let here_in : IsIn s.net here = rw e (All-get_or (λ z. IsIn s.net z) places i b h inside) in
      let j : suc i ≡ i + 1 = omega arith in
      let place : (v : ℕ → Bool) → holds v m.net here ≡ get_or (map (holds v s.net) places) i false =
      λ v. holds_added x.turned.added v here here_in ∙ ap (holds v s.net) e ∙ sym (get_or-map (holds v s.net) places i b false h) in
      let there : (v : ℕ → Bool) → live_in o i m.cells.items ≡ is_some (seen_at p (key o i) (stand p v s).cells) =
      λ v. sym (same_live p m o i v) ∙ ap (live (key o i)) (same_cells p x.turned v) ∙ sym (there_is_live p s o i (stand p v s).cells) in
      record {
        turned = turned_after p (3 * (i + 1)) x.turned g.turned (omega arith);
        means = means_by n.net r (λ v. cond (holds v m.net here) (holds v m.net held) (holds v m.net d)) (λ v. is_some (held_in p o s places (i + 1) v)) g.means
            (λ v.
            (λ k. cond (place v k) ((y.is v ∙ there v) k) (x.means.is v k))
            ∙ either_there (get_or (map (holds v s.net) places) i false) (seen_at p (key o i) (stand p v s).cells) (held_in p o s places i v)
            ∙ ap (λ k. is_some (held_in p o s places k v)) j);
      }

  -- ---- what the element is

  -- a cell that is live holds a number of its type
  cell_number : (s : Sym) (ty : IntType) (v : ℕ → Bool) (net : List NetNode) (bits : List Bit) (i : ℕ) (cs : List Cell) → ty ≡ type_of_object p o → AreTyped p.model ty net bits → typed p.model ty v net bits ≡ read_cell (key o i) cs
      → (t : Bool) → live (key o i) cs ≡ t → IfSome (seen_at p (key o i) cs) (λ z. z ≡ typed p.model ty v net bits)
  cell_number s ty v net bits i cs same wide e true h =
      subst (λ x. IfSome x (λ z. z ≡ typed p.model ty v net bits)) (seen_live p s o i cs h)
      (ap (λ t. fit p.model t (read_cell (key o i) cs)) (sym same) ∙ ap (fit p.model ty) (sym e) ∙ typed_kept p.model ty v net bits wide)
  cell_number s ty v net bits i cs same wide e false h = subst (λ x. IfSome x (λ z. z ≡ typed p.model ty v net bits)) (seen_dead p s o i cs h) tt

  -- ---- the cell at the places

  pub at_places : {before : List NetNode} {i m : ℕ} {cell : MaybeCell} {places : Places} {s a n : Sym} {rs : List Bit} {r : Bit} → ArePlaced before s.net i m cell places → length places.bits ≤ size_of_object p o
      → Decided p (3 * length places.bits) s a r (λ v. is_some (held_in p o s places.bits (length places.bits) v)) → IsPicked p o places.inner places.columns 0 (length places.bits) places.digits a n rs
      → Sees p (cell_cost p o) s n (Some (type_of_object p o)) rs r (λ v. and_then (cell v) (seen_cell p o v s))
  at_places {m = m} {cell = cell} {places = places} {s = s} {a = a} {n = n} {rs = rs} {r = r} made few g y =
      let ty = type_of_object p o in
      let held : (v : ℕ → Bool) → held_in p o s places.bits (length places.bits) v ≡ and_then (cell v) (seen_cell p o v s) =
      λ v. ap₂ (λ bs k. seen_last (λ i. get_or bs i false) (seen_cell p o v s) k) (made.is v) made.wide ∙ cell_value m (cell v) (seen_cell p o v s) (made.below v) in
      record {
        turned = turned_after p (cell_cost p o) g.turned y.turned (tree_within (length places.bits) (size_of_object p o) (width_of p.model ty) few);
        seen = record {
          bits_in = y.bits_in;
          defined = means_added y.turned.added (means_by a.net r (λ v. is_some (held_in p o s places.bits (length places.bits) v)) (λ v. is_some (and_then (cell v) (seen_cell p o v s))) g.means (λ v. ap is_some (held v)));
          is = λ v.
              value_number (cell v) (seen_cell p o v s) (λ z. z ≡ typed p.model ty v n.net rs)
              (λ k e.
              let told = spells_added v g.turned.added made.digits_in (made.told v k e) in
              cell_number s ty v n.net rs k (stand p v s).cells refl y.bits_in
              (y.is v told.column (omega (arith, told.is, made.below v k e, made.wide)) ∙ ap₂ (λ j cs. read_cell (key o j) cs) (omega (arith, told.is)) (same_cells p g.turned v))
              (live (key o k) (stand p v s).cells) refl);
        };
      }

  -- what is seen at places is seen by the cells before them
  abbrev AtPlaces : Sym → Sym → List Bit → Bit → Places → Type 0
  AtPlaces s n rs r places = (before : List NetNode) (i m : ℕ) (cell : MaybeCell) → ArePlaced before s.net i m cell places → Sees p (cell_cost p o) s n (Some (type_of_object p o)) rs r (λ v. and_then (cell v) (seen_cell p o v s))

  placed_sees : {i m k : ℕ} {before : List NetNode} {s n : Sym} {net : List NetNode} {cell : MaybeCell} {places : Places} {rs : List Bit} {r : Bit} {f : Perhaps} → IsState p s → Grown k s.net net → ArePlaced before net i m cell places
      → AtPlaces (record s { net = net }) n rs r places → ((v : ℕ → Bool) → and_then (cell v) (seen_cell p o v s) ≡ f v) → Sees p (k + cell_cost p o) s n (Some (type_of_object p o)) rs r f
  placed_sees {i} {m} {k} {before} {s} {n} {net} {cell} {places} {rs} {r} {f} h g made at same =
      let w = at before i m cell made in
      let up = net_turned p s net h g in
      record {
        turned = turned_after p (k + cell_cost p o) up w.turned (omega arith);
        seen = seen_as p.model f w.seen (λ v. ap (λ cs. and_then (cell v) (λ j. seen_at p (key o j) cs)) (same_cells p up v) ∙ same v);
      }

  -- ---- an index, and a row and a column

  pub element_sees : {s n : Sym} {net : List NetNode} {index rs : List Bit} {d r : Bit} {places : Places} {f : Perhaps} (from : IntType) → IsState p s → IsSeen p.model (Some from) s.net index d f
      → ArePlaced s.net net (index_cost (size_of_object p o) (length index)) (size_of_object p o) (index_where s.net d (size_of_object p o) (is_signed from) index) places → AtPlaces (record s { net = net }) n rs r places
      → Sees p (element_cost p from o) s n (Some (type_of_object p o)) rs r (λ v. and_then (f v) (λ j. seen_in p o j (stand p v s).cells))
  element_sees {s} {n} {net} {index} {rs} {d} {r} {places} {f} from h x made at =
      sees_within p (element_cost p from o)
      (placed_sees h made.grown made at
      (λ v.
      ap (λ c. and_then (cond (holds v s.net d) c None) (seen_cell p o v s)) (typed_index p from index (size_of_object p o) v x.bits_in)
      ∙ index_seen (holds v s.net d) (size_of_object p o) (typed p.model from v s.net index) (f v) (seen_cell p o v s) (x.defined.is v) (x.is v)))
      (omega (arith, x.bits_in.wide))

  pub row_sees : {s n : Sym} {one net : List NetNode} {row column rs : List Bit} {d e both r : Bit} {places : Places} {f g : Perhaps} (ta tb : IntType) → IsState p s → IsSeen p.model (Some ta) s.net row d f → IsSeen p.model (Some tb) s.net column e g
      → Grown 1 s.net one → Means one both (λ v. holds v s.net d && holds v s.net e)
      → ArePlaced one net (row_cost (size_of_object p o) (length row) (length column)) (rows_of p o * columns_of_object p o) (row_where one both (rows_of p o) (columns_of_object p o) (is_signed ta) row (is_signed tb) column) places
      → AtPlaces (record s { net = net }) n rs r places → Sees p (row_element_cost p ta tb o) s n (Some (type_of_object p o)) rs r (λ v. and_then (f v) (λ i. and_then (g v) (λ j. seen_in_row p o i j (stand p v s).cells)))
  row_sees {s} {n} {one} {net} {row} {column} {rs} {d} {e} {both} {r} {places} {f} {g} ta tb h x y grown means made at =
      let c = columns_of_object p o in
      let kept = seen_added p.model (Some ta) (added_of grown) x in
      let also = seen_added p.model (Some tb) (added_of grown) y in
      sees_within p (row_element_cost p ta tb o)
      (placed_sees h (two_grown grown made.grown) made at
      (λ v.
      ap₂ (λ a b. and_then (cond (holds v one both) (in_row c a b) None) (seen_cell p o v s)) (typed_index p ta row (rows_of p o) v kept.bits_in) (typed_index p tb column c v also.bits_in)
      ∙ row_seen (holds v one both) (rows_of p o) c (typed p.model ta v one row) (typed p.model tb v one column) (f v) (g v) (seen_cell p o v s) (means.is v ∙ ap₂ (λ a b. a && b) (x.defined.is v) (y.defined.is v)) (kept.is v) (also.is v)))
      (omega (arith, x.bits_in.wide, y.bits_in.wide))
