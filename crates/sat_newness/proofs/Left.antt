-- The number of a clause that is left when all others are false.
use Rattle.std.proofs.Common.{◌≡◌, ℕ, ◌+◌, ◌<◌, ◌≤◌, ◌⊎◌, inl, inr, Option, Some, None, List, length, ℤ, neg_ℤ, refl, sym, ◌∙◌, ap, subst, arith}
use Rattle.std.specs.Prelude.{slice_get, IfSome}
use Rattle.std.specs.List.{Contains}
use Rattle.std.proofs.lemmas.Bool.{cases_lt}
use Rattle.std.proofs.lemmas.Option.{none-some, same_Some, slice_get_within}
use Rattle.sat_newness.specs.Weights.{weight, Makes, IsLast}
use Rattle.sat_newness.proofs.Lists.{at_contains, contains_at}

-- of the first n numbers each is false but for the last one
pub record AreLeft (table : List ℕ) (c : List ℤ) (n : ℕ) (last : Option ℤ) : Type 0 where
  pub each : (k : ℕ) (y : ℤ) → k < n → slice_get c k ≡ Some y → (last ≡ Some y) ⊎ Makes table (neg_ℤ y)
  pub found : (x : ℤ) → last ≡ Some x → Contains c x × (weight table x < 2)

pub left_none : (table : List ℕ) (c : List ℤ) → AreLeft table c 0 None
left_none table c = record { each = λ k y lt i. absurd (omega arith); found = λ x e. absurd (none-some x e) }

pub left_false : (table : List ℕ) (c : List ℤ) (n : ℕ) (y : ℤ) (last : Option ℤ) → slice_get c n ≡ Some y → Makes table (neg_ℤ y) → AreLeft table c n last → AreLeft table c (n + 1) last
left_false table c n y last at m h = record {
  each = λ k z lt i. elim (cases_lt k n) as (λ _. (last ≡ Some z) ⊎ Makes table (neg_ℤ z)) [
    | inl l ↦ h.each k z l i
    | inr g ↦ let e : n ≡ k = omega arith in inr (subst (λ (x : ℤ). Makes table (neg_ℤ x)) (same_Some y z (sym at ∙ ap (slice_get c) e ∙ i)) m)
  ];
  found = h.found;
}

pub left_last : (table : List ℕ) (c : List ℤ) (n : ℕ) (y : ℤ) → slice_get c n ≡ Some y → weight table y < 2 → AreLeft table c n None → AreLeft table c (n + 1) (Some y)
left_last table c n y at lt h = record {
  each = λ k z l i. elim (cases_lt k n) as (λ _. (Some y ≡ Some z) ⊎ Makes table (neg_ℤ z)) [
    | inl b ↦ elim (h.each k z b i) as (λ _. (Some y ≡ Some z) ⊎ Makes table (neg_ℤ z)) [ inl e ↦ absurd (none-some z e) | inr m ↦ inr m ]
    | inr g ↦ let e : n ≡ k = omega arith in inl (sym at ∙ ap (slice_get c) e ∙ i)
  ];
  found = λ x e. let q : y ≡ x = same_Some y x e in (subst (λ (z : ℤ). Contains c z) q (contains_at c n y at), subst (λ (z : ℤ). weight table z < 2) q lt);
}

left_all : (table : List ℕ) (c : List ℤ) (n : ℕ) (x : ℤ) → length c ≤ n → AreLeft table c n (Some x) → IsLast table c x
left_all table c n x le h =
    let f = h.found x refl in
    record {
      held = f.0;
      not_true = f.1;
      others = λ y i ne.
          let a = at_contains c y i in
          elim (h.each a.0 y (omega (arith, slice_get_within c a.0 y a.1)) a.1) as (λ _. Makes table (neg_ℤ y)) [
            | inl e ↦ absurd (ne (sym (same_Some x y e)))
            | inr m ↦ m
          ];
    }

pub left_result : (table : List ℕ) (c : List ℤ) (n : ℕ) (last : Option ℤ) → length c ≤ n → AreLeft table c n last → IfSome last (λ x. IsLast table c x)
left_result table c n None le h = tt
left_result table c n (Some x) le h = left_all table c n x le h
