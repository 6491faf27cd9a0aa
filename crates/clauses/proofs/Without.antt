-- A list without one number.
use Rattle.std.proofs.Common.{◌≡◌, ◌≢◌, ◌∙◌, ◌⊎◌, inl, inr, List, [], ◌∷◌, ℤ, sym, arith}
use Rattle.std.specs.List.{Contains}
use Rattle.clauses.proofs.Integers.{int_decide}
use Rattle.clauses.proofs.Members.{there, first_or_rest, none_in}

keep : (x y : ℤ) → (y ≡ x) ⊎ (y ≢ x) → List ℤ → List ℤ
keep x y (inl e) ys = ys
keep x y (inr n) ys = y ∷ ys

pub without : ℤ → List ℤ → List ℤ
without x [] = []
without x (y ∷ ys) = keep x y (int_decide y x) (without x ys)

kept_in : (x y z : ℤ) (ys zs : List ℤ) (d : (y ≡ x) ⊎ (y ≢ x)) → (Contains zs z → Contains ys z × (z ≢ x)) → Contains (keep x y d zs) z → Contains (y ∷ ys) z × (z ≢ x)
unfolding keep
kept_in x y z ys zs (inl e) before i = (there y ys z (before i).0, (before i).1)
kept_in x y z ys zs (inr n) before i = elim (first_or_rest y zs z i) [
  | inl e ↦ ((0, omega arith, e), λ q. n (e ∙ q))
  | inr j ↦ (there y ys z (before j).0, (before j).1)
]

kept_out : (x y z : ℤ) (ys zs : List ℤ) (d : (y ≡ x) ⊎ (y ≢ x)) → (Contains ys z → Contains zs z) → Contains (y ∷ ys) z → z ≢ x → Contains (keep x y d zs) z
unfolding keep
kept_out x y z ys zs (inl e) before i n = elim (first_or_rest y ys z i) [ inl q ↦ absurd (n (sym q ∙ e)) | inr j ↦ before j ]
kept_out x y z ys zs (inr m) before i n = elim (first_or_rest y ys z i) [ inl q ↦ (0, omega arith, q) | inr j ↦ there y zs z (before j) ]

pub in_without : (x : ℤ) (ys : List ℤ) (z : ℤ) → Contains (without x ys) z → Contains ys z × (z ≢ x)
unfolding without
in_without x [] z i = absurd (none_in z i)
in_without x (y ∷ ys) z i = kept_in x y z ys (without x ys) (int_decide y x) (in_without x ys z) i

pub to_without : (x : ℤ) (ys : List ℤ) (z : ℤ) → Contains ys z → z ≢ x → Contains (without x ys) z
unfolding without
to_without x [] z i n = absurd (none_in z i)
to_without x (y ∷ ys) z i n = kept_out x y z ys (without x ys) (int_decide y x) (λ j. to_without x ys z j n) i n
