-- Elements are written: of all cells that of the place that is true.
use Rattle.std.proofs.Common.{◌≡◌, ℕ, zero, suc, ◌+◌, ◌*◌, ◌<◌, ◌≤◌, Bool, true, false, cond, ◌&&◌, nat_eq, eqb-true, ℤ, List, length, get_or, map, refl, sym, ◌∙◌, ap, ap₂, arith, Some}
use Rattle.std.proofs.Math.Nat.{mul-le-mul_left}
use Rattle.std.proofs.lemmas.Bool.{eqb-false, eq-eqb, ne_eqb}
use Rattle.std.proofs.lemmas.List.{get_or-map}
use Rattle.std.proofs.lemmas.List.Elements.{All-get_or}
use Rattle.c_core.specs.Tree.{Program}
use Rattle.c_core.specs.Types.{width_of, fit}
use Rattle.c_core.specs.declared.number.IntType.{IntType}
use Rattle.c_meaning.specs.Cells.{Key, put}
use Rattle.c_meaning.specs.Objects.{type_of_object, size_of_object}
use Rattle.sym_meaning.specs.Mode.{Mode}
use Rattle.circuits.specs.declared.net.Bit.{Bit}
use Rattle.circuits.specs.declared.net.NetNode.{NetNode}
use Rattle.circuits.specs.Net.{holds, Grown, Means, IsIn}
use Rattle.circuits.specs.Numbers.{typed, AreIn, AreTyped}
use Rattle.circuits.specs.Outcome.{conversion_cost}
use Rattle.sym_state.specs.declared.state.Sym.{Sym}
use Rattle.sym_state.specs.Places.{key}
use Rattle.sym_state.specs.Standing.{Stand, stand, IsState, Turned, stored}
use Rattle.sym_state.proofs.Nets.{added_of, added_then, unchanged, holds_added, typed_added, are_typed_added, stand_grown}
use Rattle.sym_state.proofs.Composed.{turned_follows}
use Rattle.sym_values.specs.Valuing.{Reckoned, Gives}
use Rattle.sym_elements.specs.declared.placing.Places.{Places}
use Rattle.sym_elements.specs.Marks.{HasOne}
use Rattle.sym_elements.specs.Elements.{key_at, ArePlaces, width_of_element, written_cost, stored_cost, stored_in}
use Rattle.sym_elements.proofs.Marking.{mark_at}
use Rattle.sym_elements.proofs.Kept.{place_is, places_moved, key_kept}

-- is the place of this number true
abbrev pub place_at : (ℕ → Bool) → List NetNode → List Bit → ℕ → Bool
place_at v net places i = get_or (map (holds v net) places) i false

bit_at : (v : ℕ → Bool) (net : List NetNode) (bits : List Bit) (i : ℕ) (d b : Bit) → b ≡ get_or bits i d → i < length bits → holds v net b ≡ get_or (map (holds v net) bits) i false
bit_at v net bits i d b e h = ap (holds v net) e ∙ sym (get_or-map (holds v net) bits i d false h)

-- the first i cells are written, each where its place is true
abbrev pub writes : ℕ → (ℕ → Bool) → ℕ → ℤ → Stand → Stand
writes zero b o z a = a
writes (suc i) b o z a = stored ((writes i b o z a).live && b i) (key o i) z (writes i b o z a)

module _ (b : ℕ → Bool) (o : ℕ) (z : ℤ) (a : Stand) where
  live_writes : (i : ℕ) → (writes i b o z a).live ≡ a.live
  live_writes zero = refl
  live_writes (suc i) = live_writes i

  no_write : (i : ℕ) (t : Bool) → t ≡ false → stored t (key o i) z (writes i b o z a) ≡ writes i b o z a
  no_write i t h = λ j. record (writes i b o z a) { cells = cond (h j) (put (key o i) z (writes i b o z a).cells) (writes i b o z a).cells }

  and_no : (l t : Bool) → t ≡ false → (l && t) ≡ false
  and_no true t h = h
  and_no false t h = refl

  writes_dead : a.live ≡ false → (i : ℕ) → writes i b o z a ≡ a
  writes_dead h zero = refl
  writes_dead h (suc i) = no_write i ((writes i b o z a).live && b i) (ap (λ l. l && b i) (live_writes i ∙ h)) ∙ writes_dead h i

  module _ (k : ℕ) (e : (i : ℕ) → b i ≡ nat_eq k i) where
    apart : (i : ℕ) → (k ≡ i → ⊥) → b i ≡ false
    apart i d = e i ∙ ne_eqb k i d

    writes_none : (i : ℕ) → i ≤ k → writes i b o z a ≡ a
    writes_none zero h = refl
    writes_none (suc i) h = no_write i ((writes i b o z a).live && b i) (and_no (writes i b o z a).live (b i) (apart i (λ q. omega (arith, h, q)))) ∙ writes_none i (omega (arith, h))

    writes_one : a.live ≡ true → (i : ℕ) → k < i → writes i b o z a ≡ stored true (key o k) z a
    writes_one l zero h = absurd (omega (arith, h))
    writes_one l (suc i) h = by_case (nat_eq k i) refl (λ lt. writes_one l i lt)
      where
        here : k ≡ i → writes (suc i) b o z a ≡ stored true (key o k) z a
        here q =
            ap₂ (λ t x. stored (t && x) (key o i) z (writes i b o z a)) (live_writes i ∙ l) (e i ∙ eq-eqb k i q)
            ∙ ap₂ (λ x j. stored true (key o j) z x) (writes_none i (omega (arith, q))) (sym q)

        by_case : (t : Bool) → nat_eq k i ≡ t → (k < i → writes i b o z a ≡ stored true (key o k) z a) → writes (suc i) b o z a ≡ stored true (key o k) z a
        by_case true q g = here (eqb-true k i q)
        by_case false q g = no_write i ((writes i b o z a).live && b i) (and_no (writes i b o z a).live (b i) (e i ∙ q)) ∙ g (let d = eqb-false k i q in omega (arith, h, d))

module _ (p : Program) (o : ℕ) where
  -- one cell, where a place is true
  pub place_writes : {s n : Sym} {net : List NetNode} {now : Bit} (i : ℕ) (here : Bit) (value : List Bit) → IsState p s → AreTyped p.model (type_of_object p o) s.net value → Grown 1 s.net net
      → Means net now (λ v. holds v s.net s.live && holds v s.net here)
      → Turned p (4 * width_of p.model (type_of_object p o)) 0 (record s { net = net }) n (λ v. stored (holds v net now) (key o i) (typed p.model (type_of_object p o) v net value))
      → Turned p (4 * width_of_element p o + 1) 0 s n (λ v a. stored (a.live && holds v s.net here) (key o i) (typed p.model (type_of_object p o) v s.net value) a)
  place_writes {s} {n} {net} {now} i here value h iv g m x = record {
    fits = x.fits;
    added = added_then (4 * width_of_element p o + 1) 0 (added_of g) x.added (omega arith) (omega arith);
    level = x.level;
    result = x.result;
    is = λ v.
        x.is v ∙ ap₂ (λ t z. stored t (key o i) z (stand p v (record s { net = net }))) (m.is v) (typed_added (added_of g) p.model (type_of_object p o) v value iv)
        ∙ ap (stored (holds v s.net s.live && holds v s.net here) (key o i) (typed p.model (type_of_object p o) v s.net value)) (stand_grown p v g h);
  }

  -- the state after i cells
  abbrev pub Writes : List Bit → List Bit → Sym → Sym → ℕ → Type 0
  Writes places value s n i = Turned p (i * (4 * width_of_element p o + 1)) 0 s n (λ v. writes i (place_at v s.net places) o (typed p.model (type_of_object p o) v s.net value))

  pub writes_begin : {s : Sym} (places value : List Bit) → IsState p s → Writes places value s s 0
  writes_begin {s} places value h = record { fits = h; added = unchanged _ s.net; level = refl; result = refl; is = λ v. refl }

  pub writes_next : {s m n : Sym} {here : Bit} {i : ℕ} (places value : List Bit) (d : Bit) → Writes places value s m i → AreIn s.net places → AreTyped p.model (type_of_object p o) s.net value → i < length places → here ≡ get_or places i d
      → Turned p (4 * width_of_element p o + 1) 0 m n (λ v a. stored (a.live && holds v m.net here) (key o i) (typed p.model (type_of_object p o) v m.net value) a) → Writes places value s n (i + 1)
  writes_next {s} {m} {n} {here} {i} places value d x inside iv lt e r =
      let here_in : IsIn s.net here = rw e (All-get_or (λ b. IsIn s.net b) places i d lt inside) in
      let j : suc i ≡ i + 1 = omega arith in
      record {
        fits = r.fits;
        added = added_then ((i + 1) * (4 * width_of_element p o + 1)) 0 x.added r.added (omega arith) (omega arith);
        level = r.level ∙ x.level;
        result = r.result ∙ x.result;
        is = λ v.
            let z = typed p.model (type_of_object p o) v s.net value in
            r.is v
            ∙ ap₂ (λ t w. stored ((stand p v m).live && t) (key o i) w (stand p v m)) (holds_added x.added v here here_in ∙ bit_at v s.net places i d here e lt) (typed_added x.added p.model (type_of_object p o) v value iv)
            ∙ ap (λ a. stored (a.live && place_at v s.net places i) (key o i) z a) (x.is v)
            ∙ ap (λ k. writes k (place_at v s.net places) o z (stand p v s)) j;
      }

  pub writes_all : {s n : Sym} {i : ℕ} (places : Places) (value : List Bit) → ArePlaces p s o places → Writes places.bits value s n i → i ≡ length places.bits
      → Turned p (written_cost p o) 0 s n (λ v. stored (holds v s.net s.live) (key_at o v s.net places.bits) (typed p.model (type_of_object p o) v s.net value))
  writes_all {s} {n} {i} places value x w e = record {
    fits = w.fits;
    added = added_then (written_cost p o) 0 (unchanged 0 s.net) w.added (few_writes i (size_of_object p o) (4 * width_of_element p o + 1) (omega (arith, e, x.few))) (omega arith);
    level = w.level;
    result = w.result;
    is = λ v. w.is v ∙ all_of v (holds v s.net s.live) refl;
  }
    where
      few_writes : (m n w : ℕ) → m ≤ n → 0 + m * w ≤ n * w
      few_writes m n w h =
          let q : w * m ≤ w * n = mul-le-mul_left w h in
          omega (arith, q)

      z : (ℕ → Bool) → ℤ
      z v = typed p.model (type_of_object p o) v s.net value

      all_of : (v : ℕ → Bool) (l : Bool) → holds v s.net s.live ≡ l
          → writes i (place_at v s.net places.bits) o (z v) (stand p v s) ≡ stored (holds v s.net s.live) (key_at o v s.net places.bits) (z v) (stand p v s)
      all_of v false h =
          writes_dead (place_at v s.net places.bits) o (z v) (stand p v s) h i
          ∙ (λ j. record (stand p v s) { cells = cond (sym h j) (put (key_at o v s.net places.bits) (z v) (stand p v s).cells) (stand p v s).cells })
      all_of v true h =
          let one : HasOne (length places.bits) (map (holds v s.net) places.bits) = x.one v h in
          writes_one (place_at v s.net places.bits) o (z v) (stand p v s) one.0 (λ k. ap (λ bs. get_or bs k false) one.2 ∙ mark_at one.0 (length places.bits) k one.1) h i (omega (arith, e, one.1))
          ∙ ap₂ (λ t k. stored t k (z v) (stand p v s)) (sym h) (sym (place_is o places.bits s v one))

  dead_store : (k : Key) (z : ℤ) (a : Stand) → a.live ≡ false → stored a.live k z a ≡ a
  dead_store k z a h = λ i. record a { cells = cond (h i) (put k z a.cells) a.cells }

  -- where nothing but the net changes the places stay
  pub places_reckoned : {i : ℕ} {s n : Sym} {ty : IntType} {bits : List Bit} {places : Places} {f : (ℕ → Bool) → ℤ} → ArePlaces p s o places → Reckoned p i s n ty bits f → ArePlaces p n o places
  places_reckoned {places = places} x r = places_moved p o places x r.turned.added (λ v live. ap (λ a. a.live) (sym (r.turned.is v)) ∙ live)

  -- a value is converted, and stored
  pub element_stores : {s one n : Sym} {bits : List Bit} (places value : List Bit) (W : Mode) (from to : IntType) → to ≡ type_of_object p o → AreIn s.net places
      → Reckoned p (conversion_cost p.model from to) s one to bits (λ v. fit p.model to (typed p.model from v s.net value))
      → Turned p (written_cost p o) 0 one n (λ v. stored (holds v one.net one.live) (key_at o v one.net places) (typed p.model (type_of_object p o) v one.net bits))
      → Gives p W (stored_cost p from o) 0 s n (Some to) bits (stored_in p W o places from value s)
  element_stores {s} {one} {n} {bits} places value W from to e inside r x =
      let z : (ℕ → Bool) → ℤ = λ v. fit p.model (type_of_object p o) (typed p.model from v s.net value) in
      let k : (ℕ → Bool) → Key = λ v. key_at o v s.net places in
      let whole : Turned p (stored_cost p from o) 0 s n (λ v a. stored a.live (k v) (z v) a) = record {
        fits = x.fits;
        added = added_then (stored_cost p from o) 0 r.turned.added x.added (omega (arith, ap (conversion_cost p.model from) e)) (omega arith);
        level = x.level ∙ r.turned.level;
        result = x.result ∙ r.turned.result;
        is = λ v.
            x.is v
            ∙ ap₂ (λ j w. stored (holds v one.net one.live) j w (stand p v one)) (key_kept places o v r.turned.added inside)
            (ap (λ t. typed p.model t v one.net bits) (sym e) ∙ r.is v ∙ ap (λ t. fit p.model t (typed p.model from v s.net value)) e)
            ∙ ap (λ a. stored a.live (k v) (z v) a) (r.turned.is v);
      } in
      record {
        bits_in = are_typed_added x.added r.bits_in;
        follows = turned_follows p W.duties (λ v a. stored a.live (k v) (z v) a) whole (λ v. refl) (λ v d. dead_store (k v) (z v) (stand p v s) d)
            (λ v here rest.
            let a = stand p v s in (
              record { live = here.live; broken = here.broken; again = here.again; gave = here.gave; failing = here.failing },
              (λ i. record { cells = cond (sym here.live i) (put (k v) (z v) a.cells) a.cells; values = rest; draws = a.draws; completed = a.completed }),
              sym (typed_added x.added p.model to v bits r.bits_in ∙ r.is v ∙ ap (λ t. fit p.model t (typed p.model from v s.net value)) e),
            ));
      }
