-- What one more term, a constant and a common multiplier do to the value of a list of terms.
use Rattle.std.proofs.Common.{◌≡◌, ℕ, zero, suc, ◌+◌, ◌*◌, ◌%◌, ◌^◌, ◌<◌, ◌≤◌, List, [], ◌∷◌, ◌++◌, map, length, get_or, set, take, drop, cond, nat_lt, Bool, true, false, not, ◌&&◌, eqb, refl, sym, ◌∙◌, ap, subst, arith}
use Rattle.std.specs.List.{All, Any, insert, remove}
use Rattle.std.proofs.lemmas.List.{take_all, drop_all, append-nil, get_or_read, take_more_same}
use Rattle.std.proofs.lemmas.List.Sums.{sum_by-set, sum_by-remove, sum_by-insert, sum_by-cons, sum_by_more}
use Rattle.std.proofs.lemmas.List.Elements.{All-set, All-append, All-take, All-drop, All-cons, All-more, All-map, All-nil}
use Rattle.std.specs.Str.{bytes_eq}
use Rattle.std.proofs.lemmas.Slice.Eq.{bytes_eq-Decides}
use Rattle.std.proofs.lemmas.Bool.{false≢true}
use Rattle.std.proofs.lemmas.Bool.Decides.{Decides-eqb}
use Rattle.polynomials.specs.declared.polynomial.Term.{Term}
use Rattle.polynomials.specs.Values.{Same, factor, product_of, value, degree, AreFactorsBelow, AreBelow}
use Rattle.polynomials.specs.Calls.{IsWithTerm, IsScaled, IsConstant, HasUnknowns, HasSameZeros}
use Rattle.polynomials.proofs.Carrying.{one_pos}
use Rattle.polynomials.proofs.Sameness.{same_refl, same_by, same_sym, same_trans, same_add, same_mul, same_mod, same_masked, same_cancel}

abbrev term : ℕ → List ℕ → Term
term c factors = record { coefficient = c; factors = factors }

abbrev pub worth : (ℕ → ℕ) → Term → ℕ
worth v t = t.coefficient * product_of v t.factors

-- a term that the sum of coefficients makes 0 goes
removed_is : {w coefficient : ℕ} {old new : List Term} (place : ℕ) (t : Term) → w ≤ 64 → place < length old → t ≡ get_or old place t
    → new ≡ remove old place → 0 ≡ (t.coefficient + coefficient) % 2 ^ 64 % 2 ^ w → IsWithTerm w old coefficient t.factors new
removed_is {w} {coefficient} {old} {new} place t narrow h read e zero_is = record {
  is = λ v.
      let p = product_of v t.factors in
      let sum : value v (remove old place) + worth v t ≡ value v old = ap (λ x. value v (remove old place) + worth v x) read ∙ sum_by-remove (worth v) old place t h in
      let split : value v old + coefficient * p ≡ value v new + (t.coefficient + coefficient) * p = rw e (omega (arith, sum)) in
      let none : value v new + 0 * p ≡ value v new = omega arith in
      same_sym (same_trans (same_by split) (same_trans (same_add (same_refl w (value v new)) (same_mul (same_sym (same_masked narrow zero_is)) (same_refl w p))) (same_by none)));
  within = λ n a b. rw e (All-append (λ t. AreFactorsBelow n t.factors) (take place old) (drop (suc place) old) (All-take (λ t. AreFactorsBelow n t.factors) place old a) (All-drop (λ t. AreFactorsBelow n t.factors) (suc place) old a));
}

-- a term gets another coefficient
merged_is : {w coefficient : ℕ} {old new : List Term} (place : ℕ) (t y : Term) → w ≤ 64 → place < length old → t ≡ get_or old place t
    → new ≡ set old place y → y.coefficient ≡ (t.coefficient + coefficient) % 2 ^ 64 % 2 ^ w → y.factors ≡ t.factors → IsWithTerm w old coefficient t.factors new
merged_is {w} {coefficient} {old} {new} place t y narrow h read e sum_is same = record {
  is = λ v.
      let p = product_of v t.factors in
      let edit : value v (set old place y) + worth v t ≡ value v old + worth v y = ap (λ x. value v (set old place y) + worth v x) read ∙ sum_by-set (worth v) old place y t h in
      let named : worth v y ≡ y.coefficient * p = ap (λ l. y.coefficient * product_of v l) same in
      let first : value v new + t.coefficient * p ≡ value v old + y.coefficient * p = rw e (omega (arith, edit, named)) in
      let last : value v old + (t.coefficient + coefficient) * p ≡ value v old + coefficient * p + t.coefficient * p = omega arith in
      same_cancel (t.coefficient * p) (same_trans (same_by first) (same_trans (same_add (same_refl w (value v old)) (same_mul (same_masked narrow sum_is) (same_refl w p))) (same_by last)));
  within = λ n a b. rw e (All-set (λ t. AreFactorsBelow n t.factors) old place y (rw same b) a);
}

-- the same, of the term that is read at the place
pub removed_at : {w coefficient : ℕ} {items old new : List Term} (place : ℕ) (t : Term) → items ≡ old → w ≤ 64 → place < length old → t ≡ get_or items place t
    → new ≡ remove items place → 0 ≡ (t.coefficient + coefficient) % 2 ^ 64 % 2 ^ w → (d : Term) → IsWithTerm w old coefficient (get_or old place d).factors new
removed_at {w} {coefficient} {items} {old} {new} place t from narrow h read made zero_is d =
    let here : t ≡ get_or old place t = read ∙ ap (λ l. get_or l place t) from in
    subst (λ x. IsWithTerm w old coefficient x.factors new) (get_or_read old place t h here d)
    (removed_is place t narrow h here (made ∙ ap (λ l. remove l place) from) zero_is)

pub merged_at : {w coefficient : ℕ} {items old new : List Term} (place : ℕ) (t y : Term) → items ≡ old → w ≤ 64 → place < length old → t ≡ get_or items place t
    → new ≡ set items place y → y.coefficient ≡ (t.coefficient + coefficient) % 2 ^ 64 % 2 ^ w → y.factors ≡ t.factors
    → (d : Term) → IsWithTerm w old coefficient (get_or old place d).factors new
merged_at {w} {coefficient} {items} {old} {new} place t y from narrow h read made sum_is same d =
    let here : t ≡ get_or old place t = read ∙ ap (λ l. get_or l place t) from in
    subst (λ x. IsWithTerm w old coefficient x.factors new) (get_or_read old place t h here d)
    (merged_is place t y narrow h here (made ∙ ap (λ l. set l place y) from) sum_is same)

-- a term that is 0
pub nothing_is : {w coefficient : ℕ} {old : List Term} {factors : List ℕ} → 0 ≡ coefficient % 2 ^ w → IsWithTerm w old coefficient factors old
nothing_is {w} {coefficient} {old} {factors} e = record {
  is = λ v.
      let p = product_of v factors in
      let zero_is : Same w coefficient 0 = same_sym (same_trans (same_by e) (same_mod w coefficient)) in
      let none : value v old + 0 * p ≡ value v old = omega arith in
      same_sym (same_trans (same_add (same_refl w (value v old)) (same_mul zero_is (same_refl w p))) (same_by none));
  within = λ n a b. a;
}

-- a term of its own
pub inserted_is : {w coefficient : ℕ} {items old new : List Term} {factors : List ℕ} (place : ℕ) (y : Term) → items ≡ old → new ≡ insert items place y
    → y.coefficient ≡ coefficient % 2 ^ w → y.factors ≡ factors → IsWithTerm w old coefficient factors new
inserted_is {w} {coefficient} {items} {old} {new} {factors} place y from made cut same = let e : new ≡ insert old place y = made ∙ ap (λ l. insert l place y) from in record {
  is = λ v.
      let p = product_of v factors in
      let sum : value v (insert old place y) ≡ value v old + worth v y = sum_by-insert (worth v) old place y in
      let named : worth v y ≡ y.coefficient * p = ap (λ l. y.coefficient * product_of v l) same in
      let first : value v new ≡ value v old + y.coefficient * p = rw e (omega (arith, sum, named)) in
      same_trans (same_by first) (same_add (same_refl w (value v old)) (same_mul (same_trans (same_by cut) (same_mod w coefficient)) (same_refl w p)));
  within = λ n a b. rw e (All-append (λ t. AreFactorsBelow n t.factors) (take place old) (y ∷ drop place old) (All-take (λ t. AreFactorsBelow n t.factors) place old a)
      (All-cons (λ t. AreFactorsBelow n t.factors) y (drop place old) (rw same b) (All-drop (λ t. AreFactorsBelow n t.factors) place old a)));
}

pub number_is : (v : ℕ → ℕ) (c : ℕ) → worth v (record { coefficient = c; factors = 0 ∷ 0 ∷ 0 ∷ 0 ∷ 0 ∷ 0 ∷ [] }) ≡ c
unfolding product_of
number_is v c = omega arith

pub single_is : (v : ℕ → ℕ) (x : ℕ) → worth v (record { coefficient = 1; factors = x ∷ 0 ∷ 0 ∷ 0 ∷ 0 ∷ 0 ∷ [] }) ≡ factor v x
unfolding product_of
single_is v x = omega arith

-- a list of one term
pub pushed_is : (v : ℕ → ℕ) (items new : List Term) (t : Term) → new ≡ items ++ t ∷ [] → items ≡ [] → value v new ≡ worth v t
pushed_is v items new t made none = ap (value v) (made ∙ ap (λ l. l ++ t ∷ []) none) ∙ omega arith

-- each coefficient times a number, cut to w digits
abbrev pub scaled : ℕ → ℕ → Term → Term
scaled w by t = record { coefficient = (t.coefficient * by) % 2 ^ 64 % 2 ^ w; factors = t.factors }

value_scaled : (w by : ℕ) → w ≤ 64 → (v : ℕ → ℕ) (ts : List Term) → Same w (value v (map (scaled w by) ts)) (by * value v ts)
value_scaled w by narrow v [] = same_by (omega arith)
value_scaled w by narrow v (t ∷ ts) =
    let p = product_of v t.factors in
    let c : ℕ = (t.coefficient * by) % 2 ^ 64 % 2 ^ w in
    let first : value v (map (scaled w by) (t ∷ ts)) ≡ c * p + value v (map (scaled w by) ts) = sum_by-cons (worth v) (scaled w by t) (map (scaled w by) ts) in
    let last : t.coefficient * by * p + by * value v ts ≡ by * value v (t ∷ ts) = omega (arith, ap (λ k. by * k) (sum_by-cons (worth v) t ts)) in
    same_trans (same_by first) (same_trans (same_add (same_mul (same_masked narrow refl) (same_refl w p)) (value_scaled w by narrow v ts)) (same_by last))

pub scaled_is : {w by : ℕ} {old new : List Term} (i : ℕ) → w ≤ 64 → new ≡ map (scaled w by) (take i old) ++ drop i old → length old ≤ i → IsScaled w old by new
scaled_is {w} {by} {old} {new} i narrow e h =
    let whole : new ≡ map (scaled w by) old = grind (arith, e, take_all i old h, drop_all i old h, append-nil (map (scaled w by) old)) in
    record {
      is = λ v. rw whole (value_scaled w by narrow v old);
      within = λ n a. rw whole (All-map (λ t. AreFactorsBelow n t.factors) (scaled w by) old a);
    }

-- the sum of the first coefficients, no unknown standing in their terms
pub record Summed (terms : List Term) (sum i : ℕ) : Type 0 where
  pub bare : All (λ t. degree t.factors ≡ 0) (take i terms)
  pub is : (v : ℕ → ℕ) → Same 64 (value v (take i terms)) sum

bare_product : (v : ℕ → ℕ) (xs : List ℕ) → degree xs ≡ 0 → product_of v xs ≡ 1
unfolding product_of
bare_product v [] h = refl
bare_product v (zero ∷ xs) h = omega (arith, bare_product v xs (omega (arith, sum_by-cons (λ x. cond (nat_lt 0 x) 1 0) zero xs)))
bare_product v (suc x ∷ xs) h = absurd (omega (arith, sum_by-cons (λ x. cond (nat_lt 0 x) 1 0) (suc x) xs, one_pos (suc x) (omega arith)))

pub summed_start : (terms : List Term) → Summed terms 0 0
summed_start terms = record { bare = All-nil (λ t. degree t.factors ≡ 0); is = λ v. same_refl 64 0 }

pub summed_more : {terms : List Term} {sum new i : ℕ} (t : Term) → Summed terms sum i → i < length terms → t ≡ get_or terms i t → degree t.factors ≡ 0
    → new ≡ (sum + t.coefficient) % 2 ^ 64 → Summed terms new (i + 1)
summed_more {terms} {sum} {new} {i} t s h read none e = record {
  bare = All-more (λ t. degree t.factors ≡ 0) terms i t h s.bare (rw (sym read) none);
  is = λ v.
      let one : worth v t ≡ t.coefficient = ap (λ k. t.coefficient * k) (bare_product v t.factors none) ∙ omega arith in
      let first : value v (take (i + 1) terms) ≡ value v (take i terms) + t.coefficient = sum_by_more (worth v) terms i t h ∙ omega (arith, ap (worth v) read, one) in
      same_trans (same_by first) (same_trans (same_add (s.is v) (same_refl 64 t.coefficient)) (same_sym (same_trans (same_by e) (same_mod 64 (sum + t.coefficient)))));
}

pub summed_end : {terms : List Term} {sum i : ℕ} → Summed terms sum i → length terms ≤ i → IsConstant terms sum
summed_end {terms} {sum} {i} s h =
    let e = take_all i terms h in
    record { bare = rw (sym e) s.bare; is = λ v. rw (sym (ap (value v) e)) (s.is v) }

-- multiples by a number that has an inverse
pub zeros_kept : {w inverse : ℕ} {old new : List Term} (odd : ℕ) → w ≤ 64 → 1 ≡ (odd * inverse) % 2 ^ 64 % 2 ^ w → IsScaled w old inverse new → HasSameZeros w old new
zeros_kept {w} {inverse} {old} {new} odd narrow e s =
    let one : Same w 1 (odd * inverse) = same_masked narrow e in
    record {
      kept = λ v z. same_trans (s.is v) (same_trans (same_mul (same_refl w inverse) z) (same_by (omega arith)));
      only = λ v z.
          let a : value v old ≡ 1 * value v old = omega arith in
          let b : odd * inverse * value v old ≡ odd * (inverse * value v old) = omega arith in
          same_trans (same_by a) (same_trans (same_mul one (same_refl w (value v old))) (same_trans (same_by b)
          (same_trans (same_mul (same_refl w odd) (same_trans (same_sym (s.is v)) z)) (same_by (omega arith)))));
      within = s.within;
    }

pub zeros_same : (w : ℕ) (terms : List Term) → HasSameZeros w terms terms
zeros_same w terms = record { kept = λ v z. z; only = λ v z. z; within = λ n a. a }

and_parts : (a b : Bool) → false ≡ not (a && b) → (a ≡ true) × (b ≡ true)
and_parts true true e = (refl, refl)
and_parts true false e = absurd (false≢true e)
and_parts false b e = absurd (false≢true e)

term_of : {c d : ℕ} {xs ys : List ℕ} → c ≡ d → xs ≡ ys → term c xs ≡ term d ys
term_of {c} {d} {xs} {ys} e f = ap (λ k. term k xs) e ∙ ap (λ l. term d l) f

-- terms that the comparison finds the same
term_same : (s t : Term) → false ≡ not (eqb s.coefficient t.coefficient && bytes_eq s.factors t.factors) → s ≡ t
term_same s t e =
    let parts = and_parts (eqb s.coefficient t.coefficient) (bytes_eq s.factors t.factors) e in
    term_of ((Decides-eqb s.coefficient t.coefficient).0 parts.0) ((bytes_eq-Decides s.factors t.factors).0 parts.1)

pub same_more : {xs ys items others : List Term} {i : ℕ} (s t : Term) → items ≡ xs → others ≡ ys → i < length xs → i < length ys → take i xs ≡ take i ys
    → s ≡ get_or items i s → t ≡ get_or others i t → false ≡ not (eqb s.coefficient t.coefficient && bytes_eq s.factors t.factors)
    → take (i + 1) xs ≡ take (i + 1) ys
same_more {xs} {ys} {items} {others} {i} s t from from_other h k prior read other e =
    let left : s ≡ get_or xs i s = read ∙ ap (λ l. get_or l i s) from in
    let right : t ≡ get_or ys i s = get_or_read ys i t k (other ∙ ap (λ l. get_or l i t) from_other) s in
    take_more_same xs ys i s h k prior (sym left ∙ term_same s t e ∙ right)
