-- The loops of multiples and products of polynomials.
use Rattle.std.proofs.Common.{◌≡◌, ℕ, ◌+◌, ◌*◌, ◌%◌, ◌^◌, ◌<◌, ◌≤◌, List, [], ◌∷◌, length, get_or, take, refl, sym, ◌∙◌, ap, subst, inl, inr, ⊎_elim, arith}
use Rattle.std.specs.List.{Any}
use Rattle.std.proofs.lemmas.Nat.{mul-le}
use Rattle.std.proofs.lemmas.List.{take_all, get_or_default}
use Rattle.std.proofs.lemmas.List.Sums.{sum_by_more}
use Rattle.std.proofs.lemmas.List.Elements.{All-get_or}
use Rattle.polynomials.specs.declared.polynomial.Term.{Term}
use Rattle.polynomials.specs.Values.{Same, AreTruths, product_of, value, degree, AreFactorsBelow, AreBelow}
use Rattle.polynomials.specs.Calls.{IsProduct, IsWithTerm, IsWithMultiple, Multiplies, MultipleIsTooMuch, ProductIsTooMuch}
use Rattle.polynomials.proofs.Sameness.{same_refl, same_by, same_sym, same_trans, same_add, same_mul, same_cut}
use Rattle.polynomials.proofs.Terms.{worth}

-- a multiple of the first i terms of another polynomial more
pub record Added (w : ℕ) (old : List Term) (coefficient : ℕ) (factors : List ℕ) (other new : List Term) (i : ℕ) : Type 0 where
  pub is : (v : ℕ → ℕ) → AreTruths v → Same w (value v new) (value v old + coefficient * product_of v factors * value v (take i other))
  pub within : (n : ℕ) → AreBelow n old → AreFactorsBelow n factors → AreBelow n other → AreBelow n new
  pub grown : length new ≤ length old + i

pub added_start : (w : ℕ) (old : List Term) (coefficient : ℕ) (factors : List ℕ) (other : List Term) → Added w old coefficient factors other old 0
added_start w old coefficient factors other = record { is = λ v t. same_by (omega arith); within = λ n a b c. a; grown = omega arith }

pub added_more : {w coefficient i : ℕ} {old mid new other items : List Term} {factors product : List ℕ} (d : Term) → w ≤ 64
    → Added w old coefficient factors other mid i → items ≡ other → i < length items → IsProduct factors (get_or items i d).factors product
    → IsWithTerm w mid ((coefficient * (get_or items i d).coefficient) % 2 ^ 64) product new → length new ≤ length mid + 1
    → Added w old coefficient factors other new (i + 1)
added_more {w} {coefficient} {i} {old} {mid} {new} {other} {items} {factors} {product} d narrow a from h p m grown =
    let t : Term = get_or items i d in
    let scaled : ℕ = (coefficient * t.coefficient) % 2 ^ 64 in
    let read : get_or other i d ≡ t = ap (λ l. get_or l i d) (sym from) in
    let inside : i < length other = omega (arith, h, ap length from) in
    record {
      is = λ v truths.
          let f = product_of v factors in
          let g = product_of v t.factors in
          let some = value v (take i other) in
          let next : value v (take (i + 1) other) ≡ some + t.coefficient * g = sum_by_more (worth v) other i d inside ∙ ap (λ x. some + worth v x) read in
          let first : Same w (scaled * product_of v product) (coefficient * t.coefficient * (f * g)) = same_mul (same_cut narrow refl) (same_by (p.is v truths)) in
          let last : value v old + coefficient * f * some + coefficient * t.coefficient * (f * g) ≡ value v old + coefficient * f * value v (take (i + 1) other) = rw next (omega arith) in
          same_trans (m.is v) (same_trans (same_add (a.is v truths) first) (same_by last));
      within = λ n x y z. m.within n (a.within n x y z) (p.within n y (subst (λ t. AreFactorsBelow n t.factors) read (All-get_or (λ t. AreFactorsBelow n t.factors) other i d inside z)));
      grown = omega (arith, a.grown, grown);
    }

pub added_end : {w coefficient i : ℕ} {old new other : List Term} {factors : List ℕ} → Added w old coefficient factors other new i → length other ≤ i
    → IsWithMultiple w old coefficient factors other new
added_end {w} {coefficient} {i} {old} {new} {other} {factors} a h = record {
  is = λ v truths. same_trans (a.is v truths) (same_by (ap (λ l. value v old + coefficient * product_of v factors * value v l) (take_all i other h)));
  within = a.within;
}

-- the product of the first i terms of p and q
pub record Multiplied (w : ℕ) (p q new : List Term) (i : ℕ) : Type 0 where
  pub is : (v : ℕ → ℕ) → AreTruths v → Same w (value v new) (value v (take i p) * value v q)
  pub within : (n : ℕ) → AreBelow n p → AreBelow n q → AreBelow n new
  pub grown : length new ≤ i * length q

pub multiplied_more : {w i : ℕ} {p q mid new items : List Term} (d : Term) → Multiplied w p q mid i → items ≡ p → i < length items
    → IsWithMultiple w mid (get_or items i d).coefficient (get_or items i d).factors q new → length new ≤ length mid + length q → Multiplied w p q new (i + 1)
multiplied_more {w} {i} {p} {q} {mid} {new} {items} d m from h a grown =
    let s : Term = get_or items i d in
    let read : get_or p i d ≡ s = ap (λ l. get_or l i d) (sym from) in
    let inside : i < length p = omega (arith, h, ap length from) in
    record {
      is = λ v truths.
          let some = value v (take i p) in
          let next : value v (take (i + 1) p) ≡ some + worth v s = sum_by_more (worth v) p i d inside ∙ ap (λ x. some + worth v x) read in
          let last : some * value v q + worth v s * value v q ≡ value v (take (i + 1) p) * value v q = rw next (omega arith) in
          same_trans (a.is v truths) (same_trans (same_add (m.is v truths) (same_refl w (worth v s * value v q))) (same_by last));
      within = λ n x y. a.within n (m.within n x y) (subst (λ t. AreFactorsBelow n t.factors) read (All-get_or (λ t. AreFactorsBelow n t.factors) p i d inside x)) y;
      grown = omega (arith, m.grown, grown);
    }

pub multiplied_end : {w i : ℕ} {p q new : List Term} → Multiplied w p q new i → length p ≤ i → Multiplies w p q new
multiplied_end {w} {i} {p} {q} {new} m h = record {
  is = λ v truths. same_trans (m.is v truths) (same_by (ap (λ l. value v l * value v q) (take_all i p h)));
  within = m.within;
}

pub product_too_much : {w i : ℕ} {p q mid items : List Term} (d : Term) → Multiplied w p q mid i → items ≡ p → i < length items
    → MultipleIsTooMuch mid (get_or items i d).factors q → ProductIsTooMuch p q
product_too_much {w} {i} {p} {q} {mid} {items} d m from h much =
    let s : Term = get_or items i d in
    let inside : i < length p = omega (arith, h, ap length from) in
    let read : get_or p i s ≡ s = get_or_default p i s d inside ∙ ap (λ l. get_or l i d) (sym from) in
    ⊎_elim (λ long. inl (omega (arith, m.grown, long, mul-le (i + 1) (length q) (length p) (length q) (omega arith) (omega arith))))
    (λ high. inr (i, s, inside, read, high)) much
