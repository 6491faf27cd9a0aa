-- The table of a memory's cells: searches end, and find the innermost.
use Rattle.std.proofs.Common.{◌≡◌, ℕ, zero, suc, ◌+◌, ◌*◌, ◌/◌, ◌%◌, ◌^◌, ◌<◌, ◌≤◌, ◌⊎◌, inl, inr, List, [], ◌∷◌, ◌++◌, length, map, reverse, Bool, true, false, cond, nat_lt, ltb-true, ltb-false, get_or, drop, Option, Some, None, is_some, is_none, MatchOption, unwrap_or, refl, sym, ap, subst, ◌∙◌, arith, slice_set, get_or-set_same, get_or-set_other, length-set, length-append, set-set, pow_pos, div-lt_iff_lt-mul, mul_comm, mul-lt-mul_of_pos_right}
use Rattle.std.specs.Prelude.{slice_index_or}
use Rattle.std.proofs.lemmas.Nat.{mod_below}
use Rattle.std.proofs.lemmas.Bool.{true≢false, cases_order, cases_eq, cases_lt, or_parts}
use Rattle.std.proofs.lemmas.Option.{none-some, same_Some}
use Rattle.std.proofs.lemmas.List.{set-get_or, map-set, map_push, get_or-map, get_or_at, get_or_append_left, drop-append-le, reverse-append, reverse-reverse, length-reverse, length-map}
use Rattle.c_meaning.specs.Cells.{Key, Cell, same_key, live}
use Rattle.c_meaning.specs.Memory.{cell_of, cells_of, no_cell, IsInnermost}
use Rattle.c_meaning.proofs.Innermost.{same_key_is, same_key_self, length_cells, cells_append, none_past}
use Rattle.c_meaning.specs.Slots.{Named, name_of, names_of, place_of, key_of, entry_of, slot_of, place_in, home_of, turn, stops, slot, Passes, IsNext, Ends, Enters, IsTable, place_among, outside, IsPlaced, free, IsKept}
use Rattle.c_meaning.specs.Layout.{Rising, number_of}
use Rattle.c_meaning.proofs.Layouts.{no_object, outside_place, outside_length, outside_numbered, outside_unnumbered, placed_more, placed_beside, placed_fewer, placed_left}
use Rattle.c_meaning.specs.declared.memory.Live.{Live}
use Rattle.c_meaning.specs.declared.slots.Entry.{Entry}

-- when a slot's turn comes
turn_cases : (home size i : ℕ) → ((i < home) × (turn home size i ≡ i + size)) ⊎ ((home ≤ i) × (turn home size i ≡ i))
turn_cases home size i = by_test (nat_lt i home) refl
  where
    by_test : (b : Bool) → nat_lt i home ≡ b → ((i < home) × (turn home size i ≡ i + size)) ⊎ ((home ≤ i) × (turn home size i ≡ i))
    by_test true h = inl (ltb-true i home h, rw h refl)
    by_test false h = inr (ltb-false i home h, rw h refl)

turns_differ : (home size i j : ℕ) → i < size → j < size → turn home size i ≡ turn home size j → i ≡ j
turns_differ home size i j h k e = grind (arith, turn_cases home size i, turn_cases home size j)

ends_once : (k : Key) (size : ℕ) (t : List (Option Entry)) (i j : ℕ) → Ends k size t i → Ends k size t j → i ≡ j
ends_once k size t i j a b = by_order (cases_order (turn (home_of k size) size i) (turn (home_of k size) size j))
  where
    by_order : (turn (home_of k size) size i ≡ turn (home_of k size) size j) ⊎ ((turn (home_of k size) size i < turn (home_of k size) size j) ⊎ (turn (home_of k size) size j < turn (home_of k size) size i)) → i ≡ j
    by_order (inl e) = turns_differ (home_of k size) size i j a.within b.within e
    by_order (inr (inl h)) = absurd (true≢false (sym a.here ∙ b.first i a.within h))
    by_order (inr (inr h)) = absurd (true≢false (sym b.here ∙ a.first j b.within h))

table_size : (size : ℕ) (es : List Entry) (t : List (Option Entry)) → IsTable size es t → length t ≡ size
table_size size [] t h = h.0
table_size size (e ∷ es) t h = ap length h.2.written ∙ length-set h.0 h.2.i (Some e) ∙ table_size size es h.0 h.1

-- the written slot, and the others
module _ (size : ℕ) (x : Entry) (old new : List (Option Entry)) (w : Enters x size old new) where
  written_here : length old ≡ size → slot new w.i ≡ Some x
  written_here e = ap (λ t. slot t w.i) w.written ∙ get_or-set_same old w.i (Some x) None (omega (arith, w.ends.within))

  written_elsewhere : (i : ℕ) → (i ≡ w.i → ⊥) → slot new i ≡ slot old i
  written_elsewhere i d = ap (λ t. slot t i) w.written ∙ get_or-set_other old w.i i (Some x) None d

  undone : slice_set new w.i (slot old w.i) ≡ old
  undone = ap (λ t. slice_set t w.i (slot old w.i)) w.written ∙ set-set old w.i (Some x) (slot old w.i) ∙ set-get_or old w.i None

  earlier : (home i j : ℕ) → turn home size i < turn home size j → i ≡ j → ⊥
  earlier home i j h e = let f : turn home size i ≡ turn home size j = ap (turn home size) e in omega arith

  -- a search for the name ends there as before
  ends_as_before : length old ≡ size → Ends (key_of x) size new w.i
  ends_as_before e = record {
    within = w.ends.within;
    here = ap (stops (key_of x)) (written_here e) ∙ same_key_self (key_of x);
    first = λ j h before. ap (stops (key_of x)) (written_elsewhere j (earlier (home_of (key_of x) size) j w.i before)) ∙ w.ends.first j h before;
  }

  -- a search for another name that passes there
  ends_past : (l : Key) (i : ℕ) → Ends l size new i → (i ≡ w.i → ⊥) → (turn (home_of l size) size w.i < turn (home_of l size) size i → stops l (slot old w.i) ≡ false) → Ends l size old i
  ends_past l i a differs passed = record {
    within = a.within;
    here = ap (stops l) (sym (written_elsewhere i differs)) ∙ a.here;
    first = λ j h before. by_place j h before (cases_eq j w.i);
  }
    where
      by_place : (j : ℕ) → j < size → turn (home_of l size) size j < turn (home_of l size) size i → (j ≡ w.i) ⊎ (j ≡ w.i → ⊥) → stops l (slot old j) ≡ false
      by_place j h before (inl e) = rw e (passed (rw (← e) before))
      by_place j h before (inr d) = ap (stops l) (sym (written_elsewhere j d)) ∙ a.first j h before

  -- a search for another name that ends after a slot that was free
  ends_before : (l : Key) (i : ℕ) → Ends l size new i → slot old w.i ≡ None → turn (home_of l size) size w.i < turn (home_of l size) size i → Ends l size old w.i
  ends_before l i a empty before = record {
    within = w.ends.within;
    here = ap (stops l) empty;
    first = λ j h sooner. ap (stops l) (sym (written_elsewhere j (earlier (home_of l size) j w.i sooner))) ∙ a.first j h (omega arith);
  }

-- what stands in a slot is the name of a live cell
entries_live : (size : ℕ) (es : List Entry) (t : List (Option Entry)) (i : ℕ) (e : Entry) → IsTable size es t → slot t i ≡ Some e → is_some (place_among (key_of e) es) ≡ true
entries_live size [] t i e h s = absurd (none-some e (sym (h.1 i) ∙ s))
entries_live size (c ∷ es) t i e h s = by_place (λ q. entries_live size es h.0 i e h.1 q) (cases_eq i h.2.i)
  where
    by_test : (b : Bool) → is_some (place_among (key_of e) es) ≡ true → is_some (cond b (Some c.place) (place_among (key_of e) es)) ≡ true
    by_test true p = refl
    by_test false p = p

    by_place : (slot h.0 i ≡ Some e → is_some (place_among (key_of e) es) ≡ true) → (i ≡ h.2.i) ⊎ (i ≡ h.2.i → ⊥) → is_some (cond (same_key (key_of c) (key_of e)) (Some c.place) (place_among (key_of e) es)) ≡ true
    by_place older (inl q) =
        let there = written_here size c h.0 t h.2 (table_size size es h.0 h.1) in
        let same : c ≡ e = same_Some _ _ (sym there ∙ ap (slot t) (sym q) ∙ s) in
        let k : same_key (key_of c) (key_of e) ≡ true = ap (λ (x : _). same_key (key_of c) (key_of x)) (sym same) ∙ same_key_self (key_of c) in
        rw k refl
    by_place older (inr d) = by_test (same_key (key_of c) (key_of e)) (older (sym (written_elsewhere size c h.0 t h.2 i d) ∙ s))

none_of : (k : Key) (n : Option ℕ) → None ≡ slot_of k n → n ≡ None
none_of k None h = refl
none_of k (Some n) h = absurd (none-some (entry_of k n) h)

not_live : (n : Option ℕ) → n ≡ None → is_some n ≡ true → ⊥
not_live n e h = true≢false (sym h ∙ ap is_some e)

-- where a search ends, the place of the innermost cell of the name stands, if one is live
module _ (size : ℕ) (c : Entry) (es : List Entry) (old new : List (Option Entry)) (h : IsTable size es old) (w : Enters c size old new) (k : Key) (i : ℕ) (a : Ends k size new i) where
  abbrev Found : List (Option Entry) → ℕ → Type 0
  Found t j = slot t j ≡ slot_of k (place_among k es)

  same_name : same_key (key_of c) k ≡ true → slot new i ≡ slot_of k (Some c.place)
  same_name e =
      let q : key_of c ≡ k = same_key_is (key_of c) k e in
      let there = ends_as_before size c old new w (table_size size es old h) in
      let j : i ≡ w.i = ends_once k size new i w.i a (subst (λ l. Ends l size new w.i) q there) in
      ap (slot new) j ∙ written_here size c old new w (table_size size es old h) ∙ ap (λ l. Some (entry_of l c.place)) q

  module _ (differs : same_key (key_of c) k ≡ false) (older : (j : ℕ) → Ends k size old j → Found old j) where
    elsewhere : i ≡ w.i → ⊥
    elsewhere e = true≢false (sym a.here ∙ ap (stops k) (ap (slot new) e ∙ written_here size c old new w (table_size size es old h)) ∙ differs)

    as_older : (turn (home_of k size) size w.i < turn (home_of k size) size i → stops k (slot old w.i) ≡ false) → Found new i
    as_older passed = written_elsewhere size c old new w i elsewhere ∙ older i (ends_past size c old new w k i a elsewhere passed)

    -- the slot was free, so no such cell is live
    was_free : slot old w.i ≡ None → turn (home_of k size) size w.i < turn (home_of k size) size i → Found new i
    was_free empty before = written_elsewhere size c old new w i elsewhere ∙ by_slot (slot old i) refl
      where
        none : place_among k es ≡ None
        none = none_of k (place_among k es) (sym empty ∙ older w.i (ends_before size c old new w k i a empty before))

        by_slot : (x : Option Entry) → slot old i ≡ x → slot old i ≡ slot_of k (place_among k es)
        by_slot None e = e ∙ ap (slot_of k) (sym none)
        by_slot (Some x) e =
            let q : key_of x ≡ k = same_key_is (key_of x) k (ap (stops k) (sym (written_elsewhere size c old new w i elsewhere ∙ e)) ∙ a.here) in
            absurd (not_live (place_among k es) none (ap (λ l. is_some (place_among l es)) (sym q) ∙ entries_live size es old i x h e))

    by_slot : (x : Option Entry) → slot old w.i ≡ x → Found new i
    by_slot (Some x) e =
        let q : key_of x ≡ key_of c = same_key_is (key_of x) (key_of c) (ap (stops (key_of c)) (sym e) ∙ w.ends.here) in
        as_older (λ before. ap (stops k) e ∙ ap (λ l. same_key l k) q ∙ differs)
    by_slot None e = by_order (cases_order (turn (home_of k size) size w.i) (turn (home_of k size) size i))
      where
        by_order : (turn (home_of k size) size w.i ≡ turn (home_of k size) size i) ⊎ ((turn (home_of k size) size w.i < turn (home_of k size) size i) ⊎ (turn (home_of k size) size i < turn (home_of k size) size w.i)) → Found new i
        by_order (inl q) = absurd (elsewhere (sym (turns_differ (home_of k size) size w.i i w.ends.within a.within q)))
        by_order (inr (inl before)) = was_free e before
        by_order (inr (inr after)) = as_older (λ before. absurd (omega arith))

    other_name : Found new i
    other_name = by_slot (slot old w.i) refl

found_where_it_ends : (size : ℕ) (es : List Entry) (t : List (Option Entry)) (k : Key) (i : ℕ) → IsTable size es t → Ends k size t i → slot t i ≡ slot_of k (place_among k es)
found_where_it_ends size [] t k i h a = h.1 i
found_where_it_ends size (c ∷ es) t k i h a = by_name (same_key (key_of c) k) refl (λ j b. found_where_it_ends size es h.0 k j h.1 b)
  where
    by_name : (b : Bool) → same_key (key_of c) k ≡ b → ((j : ℕ) → Ends k size h.0 j → slot h.0 j ≡ slot_of k (place_among k es)) → slot t i ≡ slot_of k (cond (same_key (key_of c) k) (Some c.place) (place_among k es))
    by_name true e older = rw e (same_name size c es h.0 t h.1 h.2 k i a e)
    by_name false e older = rw e (other_name size c es h.0 t h.1 h.2 k i a e older)

-- a slot is free while there are fewer cells than slots
free_all : (t : List (Option Entry)) → ((i : ℕ) → slot t i ≡ None) → free t ≡ length t
free_all [] h = refl
free_all (x ∷ t) h = let e : x ≡ None = h 0 in let r = free_all t (λ i. h (suc i)) in rw (e, r) (omega arith)

free_written : (t : List (Option Entry)) (i : ℕ) (x : Option Entry) → free t ≤ free (slice_set t i x) + 1
free_written [] i x = omega arith
free_written (y ∷ t) zero x = by_slots y x
  where
    by_slots : (y x : Option Entry) → cond (is_none y) 1 0 + free t ≤ cond (is_none x) 1 0 + free t + 1
    by_slots None None = omega arith
    by_slots None (Some x) = omega arith
    by_slots (Some y) None = omega arith
    by_slots (Some y) (Some x) = omega arith
free_written (y ∷ t) (suc i) x = let h = free_written t i x in omega (arith, h)

pub free_left : (size : ℕ) (es : List Entry) (t : List (Option Entry)) → IsTable size es t → size ≤ free t + length es
free_left size [] t h = omega (arith, h.0, free_all t h.1)
free_left size (c ∷ es) t h =
    let older = free_left size es h.0 h.1 in
    let one = free_written h.0 h.2.i (Some c) in
    let e = ap free h.2.written in
    omega (arith, older, one, e)

pub free_somewhere : (t : List (Option Entry)) → 0 < free t → (i : ℕ) × (i < length t) × (slot t i ≡ None)
free_somewhere [] h = absurd (omega arith)
free_somewhere (None ∷ t) h = (0, omega arith, refl)
free_somewhere (Some x ∷ t) h = let k : 0 < free t = omega arith in let r = free_somewhere t k in (suc r.0, omega (arith, r.1), r.2)

pub home_below : (k : Key) (size : ℕ) → 0 < size → home_of k size < size
unfolding home_of
home_below k size h =
    let m = (k.object * 13925035116211876495 % 2 ^ 64 + k.index * 10511698010929265437 % 2 ^ 64) % 2 ^ 64 in
    by_factor m (mod_below (k.object * 13925035116211876495 % 2 ^ 64 + k.index * 10511698010929265437 % 2 ^ 64) (2 ^ 64) (pow_pos 64))
  where
    by_factor : (m : ℕ) → m < 2 ^ 64 → m * size / 2 ^ 64 < size
    by_factor m below = (div-lt_iff_lt-mul (pow_pos 64)).1 (subst (λ (x : ℕ). m * size < x) (mul_comm (2 ^ 64) size) (mul-lt-mul_of_pos_right below h))

-- what is found from the home on, or else from the first slot on, is where the search ends
module _ (k : Key) (t : List (Option Entry)) (h : ℕ) (e : h ≡ home_of k (length t)) where
  pub ends_next : (i : ℕ) → IsNext k t h (length t) i → Ends k (length t) t i
  ends_next i a = record {
    within = a.below;
    here = a.here;
    first = λ j q before. a.passes j (grind (arith, turn_cases h (length t) i, turn_cases h (length t) j, a.above, a.below, turns j before)) (grind (arith, turn_cases h (length t) i, turn_cases h (length t) j, a.above, a.below, turns j before));
  }
    where
      turns : (j : ℕ) → turn (home_of k (length t)) (length t) j < turn (home_of k (length t)) (length t) i → turn h (length t) j < turn h (length t) i
      turns j before = subst (λ x. turn x (length t) j < turn x (length t) i) (sym e) before

  ends_round : (i : ℕ) → h ≤ length t → Passes k t h (length t) → IsNext k t 0 h i → Ends k (length t) t i
  ends_round i within passed a = record {
    within = omega (arith, a.below);
    here = a.here;
    first = λ j q before. by_turn j q (subst (λ x. turn x (length t) j < turn x (length t) i) (sym e) before) (turn_cases h (length t) j) (turn_cases h (length t) i);
  }
    where
      by_turn : (j : ℕ) → j < length t → turn h (length t) j < turn h (length t) i → ((j < h) × (turn h (length t) j ≡ j + length t)) ⊎ ((h ≤ j) × (turn h (length t) j ≡ j))
          → ((i < h) × (turn h (length t) i ≡ i + length t)) ⊎ ((h ≤ i) × (turn h (length t) i ≡ i)) → stops k (slot t j) ≡ false
      by_turn j q before (inr p) r = passed j p.0 q
      by_turn j q before (inl p) (inl r) = a.passes j (omega arith) (omega (arith, p.1, r.1))
      by_turn j q before (inl p) (inr r) = absurd (omega (arith, r.0, a.below))

  pub ends_somewhere : (r : Option ℕ) → h ≤ length t → 0 < free t → Passes k t h (length t) → MatchOption r (Passes k t 0 h) (IsNext k t 0 h) → Ends k (length t) t (unwrap_or r 0)
  ends_somewhere (Some i) within some passed a = ends_round i within passed a
  ends_somewhere None within some passed a = let f = free_somewhere t some in absurd (true≢false (ap (stops k) (sym f.2) ∙ by_half f.0 f.1 (cases_lt f.0 h)))
    where
      by_half : (i : ℕ) → i < length t → (i < h) ⊎ (h ≤ i) → stops k (slot t i) ≡ false
      by_half i q (inl p) = a i (omega arith) p
      by_half i q (inr p) = passed i p q

-- the names of cells
pub names_more : (ls : List Live) (l : Live) → names_of (ls ++ l ∷ []) ≡ name_of l ∷ names_of ls
names_more ls l = ap reverse (map_push name_of ls l) ∙ reverse-append (map name_of ls) (name_of l ∷ [])

pub names_length : (ls : List Live) → length (names_of ls) ≡ length ls
names_length ls = length-reverse (map name_of ls) ∙ length-map ls name_of

pub names_same : (ls : List Live) (i : ℕ) (l d : Live) → i < length ls → name_of l ≡ name_of (get_or ls i d) → names_of (slice_set ls i l) ≡ names_of ls
names_same ls i l d h e = ap reverse (map-set name_of ls i l ∙ ap (slice_set (map name_of ls) i) (e ∙ sym (get_or-map name_of ls i d (name_of d) h)) ∙ set-get_or (map name_of ls) i (name_of d))

-- the innermost cell of a name stands at its place
Located : Key → List Live → Type 0
Located k ls = MatchOption (place_of k (names_of ls)) (live k (cells_of ls) ≡ false) (IsInnermost k (cells_of ls))

module _ (k : Key) (ls : List Live) (l : Live) where
  here_last : same_key (name_of l).key k ≡ true → IsInnermost k (cells_of ls ++ cell_of l ∷ []) (length (names_of ls))
  here_last e =
      let n : length (names_of ls) ≡ length (cells_of ls) = names_length ls ∙ sym (length_cells ls) in
      rw n (record {
        within = omega (arith, length-append (cells_of ls) (cell_of l ∷ []));
        here = ap (λ (c : _). same_key c.key k) (get_or_at (cells_of ls) (cell_of l) [] no_cell (length (cells_of ls)) refl) ∙ e;
        none_behind = none_past k (cells_of ls ++ cell_of l ∷ []) (suc (length (cells_of ls))) (omega (arith, length-append (cells_of ls) (cell_of l ∷ [])));
      })

  still_none : (cs : List Cell) → same_key (name_of l).key k ≡ false → live k cs ≡ false → live k (cs ++ cell_of l ∷ []) ≡ false
  still_none [] d n = rw d refl
  still_none (c ∷ cs) d n = let p = or_parts (same_key c.key k) (live k cs) n in rw (p.0, still_none cs d p.1) refl

  still_innermost : (i : ℕ) → same_key (name_of l).key k ≡ false → IsInnermost k (cells_of ls) i → IsInnermost k (cells_of ls ++ cell_of l ∷ []) i
  still_innermost i d a = record {
    within = omega (arith, a.within, length-append (cells_of ls) (cell_of l ∷ []));
    here = ap (λ (c : _). same_key c.key k) (get_or_append_left (cells_of ls) (cell_of l ∷ []) no_cell i a.within) ∙ a.here;
    none_behind = ap (live k) (drop-append-le (suc i) (cells_of ls) (cell_of l ∷ []) (omega (arith, a.within))) ∙ still_none (drop (suc i) (cells_of ls)) d a.none_behind;
  }

  located_more : Located k ls → Located k (ls ++ l ∷ [])
  unfolding Located
  located_more h = rw (names_more ls l, cells_append ls l) (by_name (same_key (name_of l).key k) refl)
    where
      by_place : (r : Option ℕ) → same_key (name_of l).key k ≡ false → MatchOption r (live k (cells_of ls) ≡ false) (IsInnermost k (cells_of ls))
          → MatchOption r (live k (cells_of ls ++ cell_of l ∷ []) ≡ false) (IsInnermost k (cells_of ls ++ cell_of l ∷ []))
      by_place None d n = still_none (cells_of ls) d n
      by_place (Some i) d a = still_innermost i d a

      by_name : (b : Bool) → same_key (name_of l).key k ≡ b
          → MatchOption (cond (same_key (name_of l).key k) (Some (length (names_of ls))) (place_of k (names_of ls))) (live k (cells_of ls ++ cell_of l ∷ []) ≡ false) (IsInnermost k (cells_of ls ++ cell_of l ∷ []))
      by_name true e = rw e (here_last e)
      by_name false e = rw e (by_place (place_of k (names_of ls)) e h)

located_backwards : (k : Key) (ls : List Live) → Located k (reverse ls)
unfolding Located
located_backwards k [] = refl
located_backwards k (l ∷ ls) = subst (Located k) (sym (reverse-append (l ∷ []) ls)) (located_more k (reverse ls) l (located_backwards k ls))

pub located : (k : Key) (ls : List Live) → MatchOption (place_of k (names_of ls)) (live k (cells_of ls) ≡ false) (IsInnermost k (cells_of ls))
unfolding Located
located k ls = subst (Located k) (reverse-reverse ls) (located_backwards k (reverse ls))

-- what a memory keeps
pub kept_free : (starts : List ℕ) (places : List (Option ℕ)) (cs : List Named) (t : List (Option Entry)) → IsKept starts places cs t → 0 < length t → 0 < free t
kept_free starts places cs t k h =
    let f = free_left (length t) (outside starts cs) t k.table in
    let n = outside_length starts cs in
    omega (arith, f, n, k.half, h)

placed_back : (k : Key) (n : Option ℕ) → place_in (slot_of k n) ≡ n
placed_back k None = refl
placed_back k (Some n) = refl

-- the table's answer for a name outside of the layout
pub kept_found : (starts : List ℕ) (places : List (Option ℕ)) (cs : List Named) (t : List (Option Entry)) (k : Key) (i : ℕ) → number_of starts k ≡ None → IsKept starts places cs t → Ends k (length t) t i → place_in (slot t i) ≡ place_of k cs
kept_found starts places cs t k i e h a = ap place_in (found_where_it_ends (length t) (outside starts cs) t k i h.table a) ∙ placed_back k (place_among k (outside starts cs)) ∙ outside_place starts k e cs

-- made anew, of another size
pub kept_anew : (starts : List ℕ) (places : List (Option ℕ)) (cs : List Named) (t u : List (Option Entry)) (size : ℕ) → IsKept starts places cs t → length u ≡ size → IsTable size (outside starts cs) u → length cs ≤ size / 2 → IsKept starts places cs u
kept_anew starts places cs t u size h e table half = record {
  rising = h.rising;
  placed = h.placed;
  table = subst (λ n. IsTable n (outside starts cs) u) (sym e) table;
  chained = h.chained;
  half = subst (λ (n : ℕ). length cs ≤ n / 2) (sym e) half;
}

-- with one cell more of a name that has a number
pub kept_more_placed : (starts : List ℕ) (places : List (Option ℕ)) (cs : List Named) (t : List (Option Entry)) (k : Key) (m n : ℕ) (hides : Option ℕ) → number_of starts k ≡ Some m → IsKept starts places cs t
    → length cs < length t / 2 → hides ≡ slice_index_or places m None → n ≡ length cs → IsKept starts (slice_set places m (Some n)) (record { key = k; hides = hides } ∷ cs) t
kept_more_placed starts places cs t k m n hides numbered h within e same = record {
  rising = h.rising;
  placed = placed_more starts h.rising places (record { key = k; hides = hides }) cs m n numbered same h.placed;
  table = rw (outside_numbered starts (record { key = k; hides = hides }) cs m numbered) h.table;
  chained = (e ∙ (h.placed k m numbered).1, h.chained);
  half = omega (arith, within);
}

-- with one cell more of a name outside of the layout
pub kept_more : (starts : List ℕ) (places : List (Option ℕ)) (cs : List Named) (t : List (Option Entry)) (k : Key) (i n : ℕ) (hides : Option ℕ) → number_of starts k ≡ None → IsKept starts places cs t
    → length cs < length t / 2 → Ends k (length t) t i → hides ≡ place_in (slot t i) → n ≡ length cs
    → IsKept starts places (record { key = k; hides = hides } ∷ cs) (slice_set t i (Some (entry_of k n)))
kept_more starts places cs t k i n hides none h within a e m =
    let u : length (slice_set t i (Some (entry_of k n))) ≡ length t = length-set t i (Some (entry_of k n)) in
    record {
      rising = h.rising;
      placed = placed_beside starts places (record { key = k; hides = hides }) cs none h.placed;
      table = rw (outside_unnumbered starts (record { key = k; hides = hides }) cs none)
          (subst (λ s. IsTable s (entry_of k (length cs) ∷ outside starts cs) (slice_set t i (Some (entry_of k n)))) (sym u)
          (t, h.table, record { i = i; ends = a; written = ap (λ x. slice_set t i (Some (entry_of k x))) m }));
      chained = (e ∙ kept_found starts places cs t k i none h a, h.chained);
      half = omega (arith, u, within);
    }

-- with one cell less of a name that has a number: what it hid has the place again
pub kept_fewer_placed : (starts : List ℕ) (places : List (Option ℕ)) (c : Named) (cs : List Named) (t : List (Option Entry)) (m : ℕ) → number_of starts c.key ≡ Some m → IsKept starts places (c ∷ cs) t
    → IsKept starts (slice_set places m c.hides) cs t
kept_fewer_placed starts places c cs t m numbered h = record {
  rising = h.rising;
  placed = placed_fewer starts h.rising places c cs m numbered h.chained.0 h.placed;
  table = subst (λ es. IsTable (length t) es t) (outside_numbered starts c cs m numbered) h.table;
  chained = h.chained.1;
  half = omega (arith, h.half);
}

-- with one cell less of a name outside of the layout: what it hid stands in its slot again
pub kept_fewer : (starts : List ℕ) (places : List (Option ℕ)) (c : Named) (cs : List Named) (t : List (Option Entry)) (i : ℕ) → number_of starts c.key ≡ None → IsKept starts places (c ∷ cs) t → Ends c.key (length t) t i
    → IsKept starts places cs (slice_set t i (slot_of c.key c.hides))
kept_fewer starts places c cs t i none h a =
    let x : Entry = entry_of c.key (length cs) in
    let es = outside starts cs in
    let tabled : IsTable (length t) (x ∷ es) t = subst (λ (ys : _). IsTable (length t) ys t) (outside_unnumbered starts c cs none) h.table in
    let old = tabled.0 in
    let w = tabled.2 in
    let size : length old ≡ length t = table_size (length t) es old tabled.1 in
    let j : i ≡ w.i = ends_once c.key (length t) t i w.i a (ends_as_before (length t) x old t w size) in
    let hid : slot_of c.key c.hides ≡ slot old w.i =
    ap (slot_of c.key) (h.chained.0 ∙ sym (outside_place starts c.key none cs)) ∙ sym (found_where_it_ends (length t) es old c.key w.i tabled.1 w.ends) in
    let back : slice_set t i (slot_of c.key c.hides) ≡ old =
    ap (λ n. slice_set t n (slot_of c.key c.hides)) j ∙ ap (slice_set t w.i) hid ∙ undone (length t) x old t w in
    subst (IsKept starts places cs) (sym back) (record {
      rising = h.rising;
      placed = placed_left starts places c cs none h.placed;
      table = subst (λ n. IsTable n es old) (sym size) tabled.1;
      chained = h.chained.1;
      half = omega (arith, h.half, size);
    })

-- of no cells, under another layout
pub kept_none : (starts tops : List ℕ) (places places2 : List (Option ℕ)) (t : List (Option Entry)) → IsKept starts places [] t → Rising tops → IsPlaced tops [] places2 → IsKept tops places2 [] t
kept_none starts tops places places2 t h rising placed = record {
  rising = rising;
  placed = placed;
  table = h.table;
  chained = tt;
  half = h.half;
}

-- a memory at first
pub kept_new : IsKept [] [] [] []
kept_new = record {
  rising = λ i j h within. absurd (omega arith);
  placed = λ k n h. absurd (none-some n (sym (no_object [] k (omega arith)) ∙ h));
  table = (refl, λ i. refl);
  chained = tt;
  half = omega arith;
}
