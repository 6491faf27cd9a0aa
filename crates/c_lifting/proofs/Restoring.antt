-- A havoc run that draws what cells hold somewhere else comes to those cells.
use Rattle.std.proofs.Common.{◌≡◌, ◌⊎◌, ℕ, zero, suc, ℤ, true, false, List, [], ◌∷◌, ◌++◌, refl, sym, ap, ◌∙◌, subst, inl, inr, ⊎_elim, true≢false, append_assoc}
use Rattle.std.proofs.lemmas.Bool.{or_cases}
use Rattle.c_core.specs.Types.{fit}
use Rattle.c_core.specs.Tree.{Program}
use Rattle.c_core.specs.declared.number.Spot.{Spot}
use Rattle.c_core.proofs.Fits.{fit_kept}
use Rattle.c_meaning.specs.declared.run.Draw.{Draw}
use Rattle.c_meaning.specs.declared.run.DrawKind.TheVariants.{Havoc as AHavocDraw}
use Rattle.c_meaning.specs.Cells.{Key, Cell, same_key, live, read, put}
use Rattle.c_meaning.specs.Objects.{type_of_object, size_of_object}
use Rattle.c_meaning.specs.Acts.{Res, Go, bind}
use Rattle.c_meaning.specs.Duties.{Placed}
use Rattle.c_meaning.specs.Fitting.{FitCells}
use Rattle.c_meaning.specs.Havoc.{Stopped, Left, redraw_cells, redraw}
use Rattle.c_meaning.proofs.FittingCells.{read_fits}
use Rattle.c_frames.specs.Frames.{SameBut}
use Rattle.c_frames.proofs.CellLaws.{among, Place, Behind, Here, Absent, place, put_behind, put_here, put_absent, put_dead, read_behind, read_here, live_among, keys_put, same_live, same_name, name_same}
use Rattle.c_frames.proofs.Framing.{names_from, names, in_names}

-- the cells, with the values that d has at these names
abbrev pub over : List Key → List Cell → List Cell → List Cell
over [] d c = c
over (k ∷ ks) d c = over ks d (put k (read k d) c)

live_put : (k : Key) (v : ℤ) (j : Key) (c : List Cell) → live j (put k v c) ≡ live j c
live_put k v j c = live_among j (put k v c) ∙ ap (among j) (keys_put k v c) ∙ sym (live_among j c)

-- the first cell behind it, and the others
record Front (js : List Key) (y : Cell) (ys : List Cell) (x : Cell) (xs : List Cell) : Type 0 where
  z : Cell
  splits : over js (y ∷ ys) (x ∷ xs) ≡ z ∷ over js ys xs
  key : z.key ≡ y.key
  either : (z.value ≡ x.value) ⊎ (z.value ≡ y.value)
  written : among y.key js ≡ true → live y.key ys ≡ false → z.value ≡ y.value

written_more : (j : Key) (js : List Key) (k : Key) {P : Type 0} → (j ≡ k → P) → (among k js ≡ true → P) → among k (j ∷ js) ≡ true → P
written_more j js k a b m = ⊎_elim (λ e. a (same_name _ _ e)) b (or_cases _ _ m)

module _ (j : Key) (js : List Key) (y : Cell) (ys : List Cell) (x : Cell) (xs : List Cell) (k : x.key ≡ y.key) (l : (k : Key) → live k xs ≡ live k ys) where
  front_behind : live j xs ≡ true → Front js y ys x (put j (read j ys) xs) → Front (j ∷ js) y ys x xs
  front_behind p ih =
      let q : live j ys ≡ true = sym (l j) ∙ p in
      record {
        z = ih.z;
        splits = ap (λ v. over js (y ∷ ys) (put j v (x ∷ xs))) (read_behind j y ys q) ∙ ap (over js (y ∷ ys)) (put_behind j (read j ys) x xs p) ∙ ih.splits;
        key = ih.key;
        either = ih.either;
        written = λ m d. written_more j js y.key (λ e. absurd (true≢false (sym q ∙ ap (λ n. live n ys) e ∙ d))) (λ n. ih.written n d) m;
      }

  front_here : live j xs ≡ false → same_key x.key j ≡ true → Front js y ys (record { key = x.key; value = y.value }) xs → Front (j ∷ js) y ys x xs
  front_here p e ih =
      let q : live j ys ≡ false = sym (l j) ∙ p in
      let e' : same_key y.key j ≡ true = ap (λ n. same_key n j) (sym k) ∙ e in
      record {
        z = ih.z;
        splits = ap (λ v. over js (y ∷ ys) (put j v (x ∷ xs))) (read_here j y ys q e') ∙ ap (over js (y ∷ ys)) (put_here j y.value x xs p e) ∙ ih.splits ∙ ap (λ r. ih.z ∷ over js ys r) (sym (put_dead j (read j ys) xs p));
        key = ih.key;
        either = ⊎_elim inr inr ih.either;
        written = λ m d. ⊎_elim (λ h. h) (λ h. h) ih.either;
      }

  front_absent : live j xs ≡ false → same_key x.key j ≡ false → Front js y ys x xs → Front (j ∷ js) y ys x xs
  front_absent p e ih = record {
    z = ih.z;
    splits = ap (over js (y ∷ ys)) (put_absent j (read j (y ∷ ys)) x xs p e) ∙ ih.splits ∙ ap (λ r. ih.z ∷ over js ys r) (sym (put_dead j (read j ys) xs p));
    key = ih.key;
    either = ih.either;
    written = λ m d. written_more j js y.key (λ q. absurd (true≢false (sym (name_same _ _ (k ∙ sym q)) ∙ e))) (λ n. ih.written n d) m;
  }

over_front : (js : List Key) (y : Cell) (ys : List Cell) (x : Cell) (xs : List Cell) → x.key ≡ y.key → ((k : Key) → live k xs ≡ live k ys) → Front js y ys x xs
over_front [] y ys x xs k l = record { z = x; splits = refl; key = k; either = inl refl; written = λ m d. absurd (true≢false (sym m)) }
over_front (j ∷ js) y ys x xs k l = by_place (place j x xs) (λ u us. over_front js y ys u us)
  where
    by_place : Place j x xs → ((u : Cell) (us : List Cell) → u.key ≡ y.key → ((i : Key) → live i us ≡ live i ys) → Front js y ys u us) → Front (j ∷ js) y ys x xs
    by_place (Behind p) ih = front_behind j js y ys x xs k l p (ih x (put j (read j ys) xs) k (λ i. live_put j (read j ys) i xs ∙ l i))
    by_place (Here p e) ih = front_here j js y ys x xs k l p e (ih (record { key = x.key; value = y.value }) xs k l)
    by_place (Absent p e) ih = front_absent j js y ys x xs k l p e (ih x xs k l)

over_none : (ks : List Key) (d : List Cell) → over ks d [] ≡ []
over_none [] d = refl
over_none (k ∷ ks) d = over_none ks d

cell_same : (x y : Cell) → x.key ≡ y.key → x.value ≡ y.value → x ≡ y
cell_same x y p q = λ i. record { key = p i; value = q i }

module _ (p : Program) (os : List ℕ) where
  restore : (c d : List Cell) → SameBut p os c d → over (names p os) d c ≡ d
  restore [] [] h = over_none (names p os) []
  restore [] (y ∷ ys) h = absurd h
  restore (x ∷ xs) [] h = absurd h
  restore (x ∷ xs) (y ∷ ys) h =
      let ks = names p os in
      let l : (k : Key) → live k xs ≡ live k ys = λ k. sym (same_live p os k xs ys h.2) in
      let a : Front ks y ys x xs = over_front ks y ys x xs (sym h.0) l in
      let v : a.z.value ≡ y.value =
      ⊎_elim (λ e. ⊎_elim (λ z. z ∙ sym e) (λ z. z) a.either) (λ m. a.written (subst (λ n. among n ks ≡ true) (sym h.0) (in_names p os x.key.object x.key.index m.0.0 m.0.1)) (sym (l y.key) ∙ ap (λ n. live n xs) h.0 ∙ m.1)) h.1 in
      a.splits ∙ ap (λ z. z ∷ over ks ys xs) (cell_same a.z y a.key v) ∙ ap (λ r. y ∷ r) (restore xs ys h.2)

over-append : (ks js : List Key) (d c : List Cell) → over (ks ++ js) d c ≡ over js d (over ks d c)
over-append [] js d c = refl
over-append (k ∷ ks) js d c = over-append ks js d (put k (read k d) c)

-- what these names hold in d
abbrev pub values_at : List Key → List Cell → List ℤ
values_at [] d = []
values_at (k ∷ ks) d = read k d ∷ values_at ks d

values-append : (ks js : List Key) (d : List Cell) → values_at (ks ++ js) d ≡ values_at ks d ++ values_at js d
values-append [] js d = refl
values-append (k ∷ ks) js d = ap (λ vs. read k d ∷ vs) (values-append ks js d)

abbrev pub at : List Cell → List ℤ → List Draw → Left
at c w ds = record { cells = c; values = w; draws = ds }

-- it comes to these cells, by these values, whatever is drawn later
pub record Comes (m : Left → Res Stopped Left (Unit {0})) (c : List Cell) (vs : List ℤ) (d : List Cell) : Type 0 where
  pub made : List Draw → List Draw
  pub by : (w : List ℤ) (ds : List Draw) → m (at c (vs ++ w) ds) ≡ Go tt (at d w (made ds))

module _ (p : Program) (I : List Placed) (spot : Spot) (d : List Cell) (fits : FitCells p d) where
  fitted : (k : Key) → fit p.model (type_of_object p k.object) (read k d) ≡ read k d
  fitted k = fit_kept p.model (type_of_object p k.object) (read k d) (read_fits p k d fits)

  cells_come : (o i n : ℕ) (c : List Cell) → Comes (redraw_cells p I spot o i n) c (values_at (names_from o i n) d) (over (names_from o i n) d c)
  cells_come o i zero c = record { made = λ ds. ds; by = λ w ds. refl }
  cells_come o i (suc n) c =
      let k : Key = record { object = o; index = i } in
      let r = cells_come o (suc i) n (put k (read k d) c) in
      record {
        made = λ ds. r.made (ds ++ record { spot = spot; ty = type_of_object p o; value = fit p.model (type_of_object p o) (read k d); from = AHavocDraw } ∷ []);
        by = λ w ds.
            ap (λ v. redraw_cells p I spot o (suc i) n (at (put k v c) (values_at (names_from o (suc i) n) d ++ w) (ds ++ record { spot = spot; ty = type_of_object p o; value = fit p.model (type_of_object p o) (read k d); from = AHavocDraw } ∷ []))) (fitted k)
            ∙ r.by w _;
      }

  objects_come : (os : List ℕ) (c : List Cell) → Comes (redraw p I spot os) c (values_at (names p os) d) (over (names p os) d c)
  objects_come [] c = record { made = λ ds. ds; by = λ w ds. refl }
  objects_come (o ∷ os) c =
      let ks = names_from o 0 (size_of_object p o) in
      let a = cells_come o 0 (size_of_object p o) c in
      let b = objects_come os (over ks d c) in
      record {
        made = λ ds. b.made (a.made ds);
        by = λ w ds.
            ap (λ vs. redraw p I spot (o ∷ os) (at c vs ds)) (ap (λ vs. vs ++ w) (values-append ks (names p os) d) ∙ append_assoc (values_at ks d) (values_at (names p os) d) w)
            ∙ ap (λ r. bind r (λ _. redraw p I spot os)) (a.by (values_at (names p os) d ++ w) ds)
            ∙ b.by w (a.made ds)
            ∙ ap (λ e. Go tt (at e w (b.made (a.made ds)))) (sym (over-append ks (names p os) d c));
      }

  -- at a loop's head: the values that its changed objects have there
  pub redrawn : (os : List ℕ) (c : List Cell) → SameBut p os c d → Comes (redraw p I spot os) c (values_at (names p os) d) d
  redrawn os c same = let r = objects_come os c in record { made = r.made; by = λ w ds. r.by w ds ∙ ap (λ e. Go tt (at e w (r.made ds))) (restore p os c d same) }
