-- What a look at one clause finds.
use Rattle.std.proofs.Common.{◌≡◌, ℕ, zero, suc, ◌+◌, ◌<◌, ◌≤◌, ◌⊎◌, inl, inr, Option, Some, None, List, [], ◌∷◌, length, ℤ, neg_ℤ, ◌<ℤ◌, refl, sym, ◌∙◌, ap, subst, arith}
use Rattle.std.specs.Prelude.{slice_get, unsigned_abs}
use Rattle.std.specs.Ordering.{int_eq}
use Rattle.std.specs.List.{Contains}
use Rattle.std.proofs.lemmas.Bool.{cases_lt}
use Rattle.std.proofs.lemmas.Bool.Decides.{Decides-int_eq}
use Rattle.std.proofs.lemmas.Int.{ints}
use Rattle.std.proofs.lemmas.Option.{none-some, same_Some, slice_get_within}
use Rattle.clauses.specs.Clause.{Rises, RisesFrom}
use Rattle.sat_core.specs.declared.trail.Assigned.{Assigned}
use Rattle.sat_core.specs.Trail.{Holds, HasValue, IsSettledBy, IsTrail}
use Rattle.sat_core.specs.Found.{IsUnit, IsTrueBy, HasTwoOpen, AreSeen}
use Rattle.sat_newness.proofs.Lists.{contains_at, at_contains}
use Rattle.sat_newness.proofs.Others.{Decides-cases}
use Rattle.sat_core.proofs.Places.{consistent, valued_neg}

-- later numbers of a rising list are greater
less_less : (x y z : ℤ) → x <ℤ y → y <ℤ z → x <ℤ z
less_less x y z a b = omega (arith, ints)

not_less : (x : ℤ) → x <ℤ x → ⊥
not_less x h = omega (arith, ints)

from_less : (x : ℤ) (ys : List ℤ) (i : ℕ) (y : ℤ) → RisesFrom x ys → slice_get ys i ≡ Some y → x <ℤ y
from_less x [] i y h q = absurd (none-some y q)
from_less x (z ∷ zs) zero y h q = subst (λ (w : ℤ). x <ℤ w) (same_Some z y q) h.0
from_less x (z ∷ zs) (suc i) y h q = less_less x z y h.0 (from_less z zs i y h.1 q)

rest_rises : (x : ℤ) (ys : List ℤ) → RisesFrom x ys → Rises ys
rest_rises x [] h = tt
rest_rises x (y ∷ ys) h = h.1

pub rises_less : (c : List ℤ) (i j : ℕ) (x y : ℤ) → Rises c → i < j → slice_get c i ≡ Some x → slice_get c j ≡ Some y → x <ℤ y
rises_less [] i j x y h lt p q = absurd (none-some x p)
rises_less (z ∷ zs) i zero x y h lt p q = absurd (omega arith)
rises_less (z ∷ zs) zero (suc j) x y h lt p q = subst (λ (w : ℤ). w <ℤ y) (same_Some z x p) (from_less z zs j y h q)
rises_less (z ∷ zs) (suc i) (suc j) x y h lt p q = rises_less zs i j x y (rest_rises z zs h) (omega arith) p q

pub seen_false : (t : List Assigned) (c : List ℤ) (n : ℕ) (found : Option ℤ) (y : ℤ) → slice_get c n ≡ Some y → Holds t (length t) (neg_ℤ y) → AreSeen t c n found → AreSeen t c (n + 1) found
seen_false t c n found y q h s = record {
  each = λ k z lt p. elim (cases_lt k n) as (λ _. (found ≡ Some z) ⊎ Holds t (length t) (neg_ℤ z)) [
    | inl l ↦ s.each k z l p
    | inr g ↦ let same : n ≡ k = omega arith in inr (subst (λ (w : ℤ). Holds t (length t) (neg_ℤ w)) (same_Some y z (sym q ∙ ap (slice_get c) same ∙ p)) h)
  ];
  unset = λ x p. let u = s.unset x p in (u.0, omega (arith, u.1), u.2, u.3);
}

pub seen_open : (t : List Assigned) (c : List ℤ) (n : ℕ) (y : ℤ) → slice_get c n ≡ Some y → (HasValue t (length t) (unsigned_abs y) → ⊥) → AreSeen t c n None → AreSeen t c (n + 1) (Some y)
seen_open t c n y q h s = record {
  each = λ k z lt p. elim (cases_lt k n) as (λ _. (Some y ≡ Some z) ⊎ Holds t (length t) (neg_ℤ z)) [
    | inl l ↦ elim (s.each k z l p) as (λ _. (Some y ≡ Some z) ⊎ Holds t (length t) (neg_ℤ z)) [ inl e ↦ absurd (none-some z e) | inr a ↦ inr a ]
    | inr g ↦ let same : n ≡ k = omega arith in inl (sym q ∙ ap (slice_get c) same ∙ p)
  ];
  unset = λ x p. (n, omega arith, q ∙ p, subst (λ (z : ℤ). HasValue t (length t) (unsigned_abs z) → ⊥) (same_Some y x p) h);
}

pub seen_two : (t : List Assigned) (c : List ℤ) (n : ℕ) (x y : ℤ) → Rises c → slice_get c n ≡ Some y → (HasValue t (length t) (unsigned_abs y) → ⊥) → AreSeen t c n (Some x) → HasTwoOpen t c
seen_two t c n x y r q h s =
    let u = s.unset x refl in
    record { one = x; other = y; apart = λ e. not_less y (subst (λ (z : ℤ). z <ℤ y) e (rises_less c u.0 n x y r u.1 u.2 q)); held = contains_at c u.0 x u.2; held_other = contains_at c n y q; unset = u.3; unset_other = h }

pub seen_all : (t : List Assigned) (c : List ℤ) (n : ℕ) → length c ≤ n → AreSeen t c n None → (y : ℤ) → Contains c y → Holds t (length t) (neg_ℤ y)
seen_all t c n le s y i =
    let a = at_contains c y i in
    elim (s.each a.0 y (omega (arith, slice_get_within c a.0 y a.1)) a.1) as (λ _. Holds t (length t) (neg_ℤ y)) [ inl e ↦ absurd (none-some y e) | inr h ↦ h ]

pub seen_unit : (t : List Assigned) (c : List ℤ) (n : ℕ) (x : ℤ) → length c ≤ n → AreSeen t c n (Some x) → IsUnit t c x
seen_unit t c n x le s =
    let u = s.unset x refl in
    record {
      held = contains_at c u.0 x u.2;
      unset = u.3;
      others = λ y i ne. let a = at_contains c y i in
          elim (s.each a.0 y (omega (arith, slice_get_within c a.0 y a.1)) a.1) as (λ _. Holds t (length t) (neg_ℤ y)) [ inl e ↦ absurd (ne (sym (same_Some x y e))) | inr h ↦ h ];
    }

-- a clause with a true number, or with two open ones, is settled
pub settled_other : (clauses : List (List ℤ)) (size : ℕ) (t : List Assigned) → IsTrail clauses size t → (c : List ℤ) → IsTrueBy t c ⊎ HasTwoOpen t c → IsSettledBy t (length t) c
settled_other clauses size t h c (inl s) = record {
  closed = λ x i p. elim (Decides-cases (int_eq x s.number) (x ≡ s.number) (Decides-int_eq x s.number)) as (λ _. Holds t (length t) x) [
    | inl e ↦ subst (λ (z : ℤ). Holds t (length t) z) (sym e) s.holds
    | inr ne ↦ absurd (consistent clauses size t h (length t) (length t) s.number s.holds (p s.number s.held (λ e. ne (sym e))))
  ];
  stands = λ p. consistent clauses size t h (length t) (length t) s.number s.holds (p s.number s.held);
}
settled_other clauses size t h c (inr s) = record {
  closed = λ x i p. elim (Decides-cases (int_eq x s.one) (x ≡ s.one) (Decides-int_eq x s.one)) as (λ _. Holds t (length t) x) [
    | inl e ↦ absurd (s.unset_other (valued_neg t (length t) s.other (p s.other s.held_other (λ q. s.apart (sym e ∙ sym q)))))
    | inr ne ↦ absurd (s.unset (valued_neg t (length t) s.one (p s.one s.held (λ e. ne (sym e)))))
  ];
  stands = λ p. s.unset (valued_neg t (length t) s.one (p s.one s.held));
}
