-- The place of each object's start.
use Rattle.std.proofs.Common.{◌≡◌, ℕ, suc, ◌<◌, ◌≤◌, List, ◌∷◌, length, drop, get_or, set, slice_get, replicate, refl, sym, ap, ◌∙◌, inl, inr, cond, nat_eq, get_or-set_same, get_or-set_other, drop-cons, arith}
use Rattle.std.proofs.lemmas.Bool.{cases_eq, eq-eqb, ne_eqb, cond-true, cond-false}
use Rattle.std.proofs.lemmas.List.{drop_all, length-replicate, get_or-replicate}
use Rattle.std.proofs.lemmas.Option.{slice_get_read, slice_get_past}
use Rattle.c_core.specs.declared.tree.Start.{Start}
use Rattle.c_meaning.specs.Run.{start_values}
use Rattle.flow_code.specs.Statics.{values_of}

module _ (starts : List Start) where
  -- each object below n has the place of its first start from an index on
  abbrev pub PlacesFrom : List ℕ → ℕ → ℕ → Type 0
  PlacesFrom places n i = (o : ℕ) → o < n → values_of (slice_get starts (get_or places o 0)) ≡ start_values o (drop i starts)

  -- beyond the end there is none
  placed_beyond : (k o : ℕ) → length starts ≤ k → values_of (slice_get starts k) ≡ start_values o (drop k starts)
  placed_beyond k o h = ap values_of (slice_get_past starts k h) ∙ sym (ap (start_values o) (drop_all k starts h))

  -- places beyond the end are those of no start
  pub placed_none : (places : List ℕ) (n : ℕ) → places ≡ replicate n (length starts) → PlacesFrom places (length places) (length starts)
  placed_none places n e o lt =
      let s : o < n = omega (arith, ap length e, length-replicate n (length starts), lt) in
      let k : get_or places o 0 ≡ length starts = ap (λ l. get_or l o 0) e ∙ get_or-replicate n o (length starts) 0 s in
      ap (λ j. values_of (slice_get starts j)) k ∙ placed_beyond (length starts) o (omega arith)

  module _ (i : ℕ) (x : Start) (within : i < length starts) (is : x ≡ get_or starts i x) where
    first_there : (o : ℕ) → start_values o (drop i starts) ≡ cond (nat_eq x.object o) x.values (start_values o (drop (suc i) starts))
    first_there o = ap (start_values o) (drop-cons starts i x within ∙ ap (λ y. y ∷ drop (suc i) starts) (sym is))

    -- an object that the start isn't for
    placed_other : (k o : ℕ) → (x.object ≡ o → ⊥) → values_of (slice_get starts k) ≡ start_values o (drop (suc i) starts) → values_of (slice_get starts k) ≡ start_values o (drop i starts)
    placed_other k o ne h = h ∙ sym (first_there o ∙ cond-false (nat_eq x.object o) x.values (start_values o (drop (suc i) starts)) (ne_eqb x.object o ne))

    -- the object that it is for
    placed_here : (o : ℕ) → x.object ≡ o → values_of (slice_get starts i) ≡ start_values o (drop i starts)
    placed_here o e =
        ap values_of (slice_get_read starts (length starts) i x refl within is)
        ∙ sym (first_there o ∙ cond-true (nat_eq x.object o) x.values (start_values o (drop (suc i) starts)) (eq-eqb x.object o e))

    -- the place of a start is noted for its object
    pub placed_more : (places : List ℕ) (n : ℕ) → length places ≡ n → x.object < n → PlacesFrom places n (suc i) → PlacesFrom (set places x.object i) n i
    placed_more places n count few h o lt =
        elim (cases_eq x.object o) [
          | inl e ↦
              let s : x.object < length places = omega arith in
              let here : get_or (set places x.object i) o 0 ≡ i = ap (λ k. get_or (set places x.object i) k 0) (sym e) ∙ get_or-set_same places x.object i 0 s in
              ap (λ k. values_of (slice_get starts k)) here ∙ placed_here o e
          | inr ne ↦
              let there : get_or (set places x.object i) o 0 ≡ get_or places o 0 = get_or-set_other places x.object o i 0 (λ e. ne (sym e)) in
              ap (λ k. values_of (slice_get starts k)) there ∙ placed_other (get_or places o 0) o ne (h o lt)
        ]

    -- one for an object that isn't there is noted nowhere
    pub placed_same : (places : List ℕ) (n : ℕ) → n ≤ x.object → PlacesFrom places n (suc i) → PlacesFrom places n i
    placed_same places n many h o lt = placed_other (get_or places o 0) o (λ e. absurd (omega (arith, e, many, lt))) (h o lt)
