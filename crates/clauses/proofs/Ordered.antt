-- Rising numbers.
use Rattle.std.proofs.Common.{◌≡◌, ◌≢◌, ◌∙◌, ℕ, zero, suc, ◌+◌, ◌-◌, ◌<◌, ◌≤◌, inl, inr, List, [], ◌∷◌, length, get_or, ℤ, pos, neg_ℤ, ◌<ℤ◌, ◌≤ℤ◌, ap, sym, subst, arith, add-one}
use Rattle.std.proofs.lemmas.Bool.{cases_lt}
use Rattle.std.proofs.lemmas.Int.{ints}
use Rattle.std.proofs.lemmas.List.Elements.{Contains-get_or}
use Rattle.std.specs.List.{Contains}
use Rattle.clauses.proofs.Integers.{opposite_twice}
use Rattle.clauses.specs.Clause.{Rises, RisesFrom, IsConsistent}

-- each number is above the one before it, by index, as far as n
abbrev pub RisesBelow : List ℤ → ℕ → Type 0
RisesBelow xs n = (k : ℕ) → k + 1 < n → get_or xs k (pos 0) <ℤ get_or xs (k + 1) (pos 0)

rises_from : (x : ℤ) (xs : List ℤ) → ((k : ℕ) → k < length xs → get_or (x ∷ xs) k (pos 0) <ℤ get_or xs k (pos 0)) → RisesFrom x xs
rises_from x [] h = tt
rises_from x (y ∷ ys) h = (h 0 (omega arith), rises_from y ys (λ k lt. h (suc k) (omega arith)))

pub rises_by_index : (xs : List ℤ) → RisesBelow xs (length xs) → Rises xs
rises_by_index [] h = tt
rises_by_index (x ∷ xs) h = rises_from x xs (λ k lt. subst (λ n. get_or (x ∷ xs) k (pos 0) <ℤ get_or (x ∷ xs) n (pos 0)) (add-one k) (h k (omega arith)))

index_from : (x : ℤ) (xs : List ℤ) → RisesFrom x xs → (k : ℕ) → k < length xs → get_or (x ∷ xs) k (pos 0) <ℤ get_or xs k (pos 0)
index_from x [] h k lt = absurd (omega arith)
index_from x (y ∷ ys) h zero lt = h.0
index_from x (y ∷ ys) h (suc k) lt = index_from y ys h.1 k (omega arith)

pub index_rises : (xs : List ℤ) → Rises xs → RisesBelow xs (length xs)
index_rises [] h k lt = absurd (omega arith)
index_rises (x ∷ xs) h k lt = subst (λ n. get_or (x ∷ xs) k (pos 0) <ℤ get_or (x ∷ xs) n (pos 0)) (sym (add-one k)) (index_from x xs h k (omega arith))

-- so an earlier number is at most a later one
pub monotone : (xs : List ℤ) → RisesBelow xs (length xs) → (i j : ℕ) → i ≤ j → j < length xs → get_or xs i (pos 0) ≤ℤ get_or xs j (pos 0)
monotone xs h i zero le lt = let e : i ≡ 0 = omega arith in subst (λ k. get_or xs k (pos 0) ≤ℤ get_or xs 0 (pos 0)) (sym e) (omega (arith, ints))
monotone xs h i (suc j) le lt = elim (cases_lt i (suc j)) [
  | inl less ↦
      let before = monotone xs h i j (omega arith) (omega arith) in
      let step : get_or xs j (pos 0) <ℤ get_or xs (suc j) (pos 0) = subst (λ n. get_or xs j (pos 0) <ℤ get_or xs n (pos 0)) (add-one j) (h j (omega arith)) in
      omega (arith, ints)
  | inr most ↦ let e : i ≡ suc j = omega arith in subst (λ k. get_or xs k (pos 0) ≤ℤ get_or xs (suc j) (pos 0)) (sym e) (omega (arith, ints))
]

-- ---- from both ends inwards: none of the numbers before `low` or from `high` on has its opposite in the list
pub record ApartOutside (xs : List ℤ) (low high : ℕ) : Type 0 where
  pub within : high ≤ length xs
  pub below : (k m : ℕ) → k < low → m < length xs → get_or xs k (pos 0) ≢ neg_ℤ (get_or xs m (pos 0))
  pub above : (k m : ℕ) → k < length xs → high ≤ m → m < length xs → get_or xs k (pos 0) ≢ neg_ℤ (get_or xs m (pos 0))

pub outside_low : (xs : List ℤ) (low high : ℕ) → Rises xs → low < high → get_or xs low (pos 0) <ℤ neg_ℤ (get_or xs (high - 1) (pos 0)) → ApartOutside xs low high → ApartOutside xs (low + 1) high
outside_low xs low high rises lt less h = record {
  within = h.within;
  below = λ k m below inside e. elim (cases_lt k low) [
    | inl l ↦ h.below k m l inside e
    | inr g ↦
        let q : k ≡ low = omega arith in
        let f = subst (λ n. get_or xs n (pos 0) ≡ neg_ℤ (get_or xs m (pos 0))) q e in
        elim (cases_lt m high) [
          | inl l ↦ let most = monotone xs (index_rises xs rises) m (high - 1) (omega arith) (let w = h.within in omega arith) in omega (arith, ints)
          | inr r ↦ h.above k m (omega arith) r inside e
        ]
  ];
  above = h.above;
}

pub outside_high : (xs : List ℤ) (low high : ℕ) → Rises xs → low < high → neg_ℤ (get_or xs (high - 1) (pos 0)) ≤ℤ get_or xs low (pos 0) → get_or xs low (pos 0) ≢ neg_ℤ (get_or xs (high - 1) (pos 0)) → ApartOutside xs low high → ApartOutside xs low (high - 1)
outside_high xs low high rises lt more apart h = record {
  within = let w = h.within in omega arith;
  below = h.below;
  above = λ k m inside from less e. elim (cases_lt m high) [
    | inr r ↦ h.above k m inside r less e
    | inl l ↦
        let q : m ≡ high - 1 = omega arith in
        let f = subst (λ n. get_or xs k (pos 0) ≡ neg_ℤ (get_or xs n (pos 0))) q e in
        elim (cases_lt k low) [
          | inl b ↦ h.below k m b less e
          | inr g ↦
              let least = monotone xs (index_rises xs rises) low k g inside in
              let same : get_or xs low (pos 0) ≡ neg_ℤ (get_or xs (high - 1) (pos 0)) = omega (arith, ints) in
              apart same
        ]
  ];
}

pub outside_all : (xs : List ℤ) (low high : ℕ) → high ≤ low → ApartOutside xs low high → IsConsistent xs
outside_all xs low high met h x (k, lk, ek) (m, lm, em) =
    let fx : get_or xs k (pos 0) ≡ x = any_default xs k x (pos 0) lk ek in
    let fy : get_or xs m (pos 0) ≡ neg_ℤ x = any_default xs m (neg_ℤ x) (pos 0) lm em in
    let e : get_or xs k (pos 0) ≡ neg_ℤ (get_or xs m (pos 0)) = fx ∙ sym (opposite_twice x) ∙ ap neg_ℤ (sym fy) in
    elim (cases_lt k low) [
      | inl l ↦ h.below k m l lm e
      | inr g ↦ elim (cases_lt m low) [
        | inl l ↦ h.below m k l lk (fy ∙ ap neg_ℤ (sym fx))
        | inr r ↦ h.above k m lk (omega arith) lm e
      ]
    ]
  where
    any_default : (xs : List ℤ) (k : ℕ) (d e : ℤ) → k < length xs → get_or xs k d ≡ d → get_or xs k e ≡ d
    any_default [] k d e lt h = absurd (omega arith)
    any_default (x ∷ xs) zero d e lt h = h
    any_default (x ∷ xs) (suc k) d e lt h = any_default xs k d e (omega arith) h

-- where two numbers are opposites, they are
pub met_opposite : (xs : List ℤ) (i j : ℕ) → i < length xs → j < length xs → get_or xs i (pos 0) ≡ neg_ℤ (get_or xs j (pos 0)) → IsConsistent xs → ⊥
met_opposite xs i j li lj e apart = apart (get_or xs j (pos 0)) (Contains-get_or xs j (pos 0) lj) (subst (Contains xs) e (Contains-get_or xs i (pos 0) li))

pub falls_at : (xs : List ℤ) (i : ℕ) → 1 ≤ i → i < length xs → get_or xs i (pos 0) ≤ℤ get_or xs (i - 1) (pos 0) → Rises xs → ⊥
falls_at xs i some lt falls rises =
    let e : i - 1 + 1 ≡ i = omega arith in
    let up = subst (λ n. get_or xs (i - 1) (pos 0) <ℤ get_or xs n (pos 0)) e (index_rises xs rises (i - 1) (omega arith)) in
    omega (arith, ints)

pub below_whole : (xs : List ℤ) (i : ℕ) → length xs ≤ i → RisesBelow xs i → RisesBelow xs (length xs)
below_whole xs i le h k lt = h k (omega arith)
