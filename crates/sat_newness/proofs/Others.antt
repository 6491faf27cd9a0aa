-- Numbers and their opposites.
use Rattle.std.proofs.Common.{◌≡◌, ◌≢◌, ℕ, zero, suc, ◌+◌, ◌<◌, ◌⊎◌, inl, inr, Bool, true, false, not, cond, List, [], ◌∷◌, ℤ, pos, negsuc, neg_ℤ, refl, sym, ◌∙◌, ap, subst, arith}
use Rattle.std.proofs.Common.{Decides as DecidesBool}
use Rattle.std.specs.Prelude.{unsigned_abs}
use Rattle.std.specs.Ordering.{int_eq}
use Rattle.std.specs.List.{Contains}
use Rattle.std.proofs.lemmas.Bool.{false≢true}
use Rattle.std.proofs.lemmas.Bool.Decides.{Decides-int_eq}
use Rattle.std.proofs.lemmas.List.Elements.{Contains-push_cases}
use Rattle.clauses.specs.Tseitin.{number_of, input_numbers}
use Rattle.sat_newness.proofs.Lists.{cons_here, cons_there, cons_cases}

pub neg_neg : (x : ℤ) → neg_ℤ (neg_ℤ x) ≡ x
neg_neg (pos zero) = refl
neg_neg (pos (suc n)) = refl
neg_neg (negsuc n) = refl

pub abs_neg : (x : ℤ) → unsigned_abs (neg_ℤ x) ≡ unsigned_abs x
abs_neg (pos zero) = refl
abs_neg (pos (suc n)) = refl
abs_neg (negsuc n) = refl

pub Decides-cases : (b : Bool) (P : Type 0) → DecidesBool b P → P ⊎ (P → ⊥)
Decides-cases true P d = inl (d.0 refl)
Decides-cases false P d = inr (λ p. false≢true (d.1 p))

-- the opposites of all numbers but one
abbrev pub others : ℤ → List ℤ → List ℤ
others m [] = []
others m (x ∷ xs) = cond (int_eq x m) (others m xs) (neg_ℤ x ∷ others m xs)

pub others_from : (m : ℤ) (c : List ℤ) (y : ℤ) → Contains (others m c) y → Contains c (neg_ℤ y) × (neg_ℤ y ≢ m)
others_from m [] y i = absurd (omega (arith, i.1))
others_from m (x ∷ xs) y i = others_from_at m x xs y (int_eq x m) (Decides-int_eq x m) i (others_from m xs y)
  where
    others_from_at : (m x : ℤ) (xs : List ℤ) (y : ℤ) (b : Bool) → DecidesBool b (x ≡ m) → Contains (cond b (others m xs) (neg_ℤ x ∷ others m xs)) y → (Contains (others m xs) y → Contains xs (neg_ℤ y) × (neg_ℤ y ≢ m)) → Contains (x ∷ xs) (neg_ℤ y) × (neg_ℤ y ≢ m)
    others_from_at m x xs y true d i ih = let h = ih i in (cons_there x (neg_ℤ y) xs h.0, h.1)
    others_from_at m x xs y false d i ih = elim (cons_cases (neg_ℤ x) y (others m xs) i) as (λ _. Contains (x ∷ xs) (neg_ℤ y) × (neg_ℤ y ≢ m)) [
      | inl e ↦ let q : x ≡ neg_ℤ y = sym (neg_neg x) ∙ ap neg_ℤ e in (subst (λ (z : ℤ). Contains (x ∷ xs) z) q (cons_here x xs), λ k. false≢true (d.1 (q ∙ k)))
      | inr k ↦ let h = ih k in (cons_there x (neg_ℤ y) xs h.0, h.1)
    ]

pub others_at : (m : ℤ) (c : List ℤ) (y : ℤ) → Contains c (neg_ℤ y) → neg_ℤ y ≢ m → Contains (others m c) y
others_at m [] y i ne = absurd (omega (arith, i.1))
others_at m (x ∷ xs) y i ne = others_at_step m x xs y (int_eq x m) (Decides-int_eq x m) (cons_cases x (neg_ℤ y) xs i) ne (λ k. others_at m xs y k ne)
  where
    others_at_step : (m x : ℤ) (xs : List ℤ) (y : ℤ) (b : Bool) → DecidesBool b (x ≡ m) → (x ≡ neg_ℤ y) ⊎ Contains xs (neg_ℤ y) → neg_ℤ y ≢ m → (Contains xs (neg_ℤ y) → Contains (others m xs) y) → Contains (cond b (others m xs) (neg_ℤ x ∷ others m xs)) y
    others_at_step m x xs y true d (inl e) ne ih = absurd (ne (sym e ∙ d.0 refl))
    others_at_step m x xs y true d (inr k) ne ih = ih k
    others_at_step m x xs y false d (inl e) ne ih = subst (λ (z : ℤ). Contains (neg_ℤ x ∷ others m xs) z) (ap neg_ℤ e ∙ neg_neg y) (cons_here (neg_ℤ x) (others m xs))
    others_at_step m x xs y false d (inr k) ne ih = cons_there (neg_ℤ x) y (others m xs) (ih k)

pub input_at : (v : ℕ → Bool) (k : ℕ) (x : ℤ) → Contains (input_numbers v k) x → (j : ℕ) × (j < k) × (x ≡ number_of (not (v j)) (j + 1))
unfolding input_numbers
input_at v zero x i = absurd (omega (arith, i.1))
input_at v (suc k) x i = elim (Contains-push_cases (input_numbers v k) (number_of (not (v k)) (k + 1)) x i) as (λ _. (j : ℕ) × (j < suc k) × (x ≡ number_of (not (v j)) (j + 1))) [
  | inl h ↦ let r = input_at v k x h in (r.0, omega (arith, r.1), r.2)
  | inr e ↦ (k, omega arith, sym e)
]
