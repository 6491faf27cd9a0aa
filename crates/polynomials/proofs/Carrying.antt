-- One factor more in a product of factors.
use Rattle.std.proofs.Common.{◌≡◌, ℕ, zero, suc, ◌+◌, ◌*◌, ◌%◌, ◌<◌, ◌≤◌, nat_lt, count_by, cond, List, [], ◌∷◌, length, get_or, set, take, ◌++◌, refl, sym, ◌∙◌, ap, ⊎_elim, arith}
use Rattle.std.specs.List.{All}
use Rattle.std.proofs.lemmas.Bool.{cases_eq}
use Rattle.std.proofs.lemmas.Bool.Decides.{nat_tests}
use Rattle.std.proofs.lemmas.List.{length-set, get_or-set_same, get_or-set_other, take_more, take_all}
use Rattle.std.proofs.lemmas.List.Sums.{sum_by-set, sum_by-cons, sum_by_more}
use Rattle.std.proofs.lemmas.List.Elements.{All-set, All-get_or, All-cons, All-head, All-nil}
use Rattle.polynomials.specs.Values.{AreTruths, factor, product_of, degree, AreFactorsBelow}
use Rattle.polynomials.specs.Calls.{IsProduct, IsTooHigh}

own_square : (t : ℕ) → t ≤ 1 → t * t ≡ t
own_square zero h = refl
own_square (suc zero) h = refl
own_square (suc (suc n)) h = absurd (omega arith)

-- an odd number stands for its own square
square : (v : ℕ → ℕ) → AreTruths v → (h : ℕ) → h % 2 ≡ 1 → factor v h * factor v h ≡ factor v h
square v t zero e = refl
square v t (suc x) e = own_square (v (suc x)) (t.small (suc x) e)

-- another factor in the place of one
product_set : (v : ℕ → ℕ) (xs : List ℕ) (i y c d : ℕ) → i < length xs → factor v y * factor v d ≡ factor v (get_or xs i 0) * factor v c
    → product_of v (set xs i y) * factor v d ≡ product_of v xs * factor v c
unfolding product_of
product_set v [] i y c d h e = absurd (omega arith)
product_set v (x ∷ xs) zero y c d h e = omega (arith, ap (λ k. k * product_of v xs) e)
product_set v (x ∷ xs) (suc i) y c d h e = omega (arith, ap (λ k. factor v x * k) (product_set v xs i y c d (omega arith) e))

-- a factor that is its own square and stands there already
product_has : (v : ℕ → ℕ) (xs : List ℕ) (i : ℕ) → i < length xs → factor v (get_or xs i 0) * factor v (get_or xs i 0) ≡ factor v (get_or xs i 0)
    → product_of v xs * factor v (get_or xs i 0) ≡ product_of v xs
unfolding product_of
product_has v [] i h e = absurd (omega arith)
product_has v (x ∷ xs) zero h e = omega (arith, ap (λ k. k * product_of v xs) e)
product_has v (x ∷ xs) (suc i) h e = omega (arith, ap (λ k. factor v x * k) (product_has v xs i (omega arith) e))

abbrev pub one : ℕ → ℕ
one x = cond (nat_lt 0 x) 1 0

-- after i places: x or what it displaced is carried on
pub record Carried (factors : List ℕ) (x : ℕ) (out : List ℕ) (carried i : ℕ) : Type 0 where
  pub is : (v : ℕ → ℕ) → AreTruths v → product_of v out * factor v carried ≡ product_of v factors * factor v x
  pub within : (n : ℕ) → AreFactorsBelow n factors → x < n → AreFactorsBelow n out
  pub carried_within : (n : ℕ) → AreFactorsBelow n factors → x < n → carried < n
  pub full : 0 < carried → (k : ℕ) → k < i → 0 < get_or out k 0
  pub count : degree out + one carried ≤ degree factors + one x
  pub wide : length out ≡ 6

pub carried_start : (factors : List ℕ) (x : ℕ) → length factors ≡ 6 → Carried factors x factors x 0
carried_start factors x wide = record { wide = wide; is = λ v t. refl; within = λ n a b. a; carried_within = λ n a b. b; full = λ p k h. absurd (omega arith); count = omega arith }

pub one_pos : (x : ℕ) → 0 < x → one x ≡ 1
one_pos zero h = absurd (omega arith)
one_pos (suc x) h = grind (arith, nat_tests)

degree_set : (xs : List ℕ) (i y : ℕ) → i < length xs → degree (set xs i y) + one (get_or xs i 0) ≡ degree xs + one y
degree_set xs i y h = sum_by-set (λ x. cond (nat_lt 0 x) 1 0) xs i y 0 h

-- the factor stays where it is not less
pub carried_kept : {factors out : List ℕ} {x carried i : ℕ} → Carried factors x out carried i → carried ≤ get_or out i 0
    → Carried factors x out carried (i + 1)
carried_kept {factors} {out} {x} {carried} {i} c l = record {
  is = c.is;
  within = c.within;
  carried_within = c.carried_within;
  full = λ p k h. grind (arith, c.full p k);
  count = c.count;
  wide = c.wide;
}

-- x was there already
pub carried_merged : {factors out : List ℕ} {x carried i : ℕ} → Carried factors x out carried i → i < length out → carried % 2 ≡ 1 → get_or out i 0 ≡ carried
    → Carried factors x out 0 (i + 1)
carried_merged {factors} {out} {x} {carried} {i} c h odd e = record {
  is = λ v t.
      let had : product_of v out * factor v carried ≡ product_of v out = rw (sym e) (product_has v out i h (rw e (square v t carried odd))) in
      omega (arith, had, c.is v t);
  within = c.within;
  carried_within = λ n a b. omega (arith, c.carried_within n a b);
  full = λ p. absurd (omega arith);
  count = omega (arith, c.count);
  wide = c.wide;
}

positive_set : (xs : List ℕ) (i y : ℕ) → i < length xs → 0 < y → ((k : ℕ) → k < i → 0 < get_or xs k 0) → (k : ℕ) → k < i + 1 → 0 < get_or (set xs i y) k 0
positive_set xs i y h p full k l = ⊎_elim (λ e. rw e (rw (get_or-set_same xs i y 0 h) p))
    (λ ne. rw (get_or-set_other xs i k y 0 ne) (full k (omega (arith, ne)))) (cases_eq k i)

-- a lesser one goes on in its stead
pub carried_swapped : {factors out : List ℕ} {x carried held i : ℕ} → Carried factors x out carried i → i < length out → get_or out i 0 ≡ held → held < carried
    → Carried factors x (set out i carried) held (i + 1)
carried_swapped {factors} {out} {x} {carried} {held} {i} c h e l = record {
  is = λ v t. product_set v out i carried carried held h (rw e (omega arith)) ∙ c.is v t;
  within = λ n a b. All-set (λ x. x < n) out i carried (c.carried_within n a b) (c.within n a b);
  carried_within = λ n a b. omega (arith, c.carried_within n a b);
  full = λ p k k_in. positive_set out i carried h (omega arith) (c.full (omega arith)) k k_in;
  count = omega (arith, c.count, degree_set out i carried h, ap one e);
  wide = length-set out i carried ∙ c.wide;
}

degree_one : (x : ℕ) → degree (x ∷ []) ≡ one x
degree_one x = omega arith

product_one : (v : ℕ → ℕ) (x : ℕ) → product_of v (x ∷ []) ≡ factor v x
unfolding product_of
product_one v x = omega arith

pub carried_end : {factors out : List ℕ} {x carried i : ℕ} → Carried factors x out carried i → carried ≡ 0 → IsProduct factors (x ∷ []) out
carried_end {factors} {out} {x} {carried} {i} c e = record {
  is = λ v t.
      let none : product_of v out * factor v carried ≡ product_of v out = rw e (omega arith) in
      omega (arith, c.is v t, none, ap (λ k. product_of v factors * k) (product_one v x));
  within = λ n a b. c.within n a (All-head (λ x. x < n) x [] b);
  few = omega (arith, c.count, degree_one x);
}

all_positive : (xs : List ℕ) → ((k : ℕ) → k < length xs → 0 < get_or xs k 0) → degree xs ≡ length xs
all_positive [] h = refl
all_positive (x ∷ xs) h = sum_by-cons (λ x. cond (nat_lt 0 x) 1 0) x xs ∙ omega (arith, one_pos x (h 0 (omega arith)), all_positive xs (λ k l. h (suc k) (omega arith)))

pub carried_over : {factors out : List ℕ} {x carried i : ℕ} → Carried factors x out carried i → 0 < carried → i ≡ 6 → IsTooHigh factors (x ∷ [])
carried_over {factors} {out} {x} {carried} {i} c p e =
    let full = all_positive out (λ k h. c.full p k (omega (arith, c.wide))) in
    omega (arith, full, c.wide, c.count, one_pos carried p, degree_one x)

-- a product with the first i factors of b
pub record Timed (a b out : List ℕ) (i : ℕ) : Type 0 where
  pub is : (v : ℕ → ℕ) → AreTruths v → product_of v out ≡ product_of v a * product_of v (take i b)
  pub within : (n : ℕ) → AreFactorsBelow n a → AreFactorsBelow n b → AreFactorsBelow n out
  pub few : degree out ≤ degree a + degree (take i b)

pub timed_start : (a b : List ℕ) → Timed a b a 0
unfolding product_of
timed_start a b = record { is = λ v t. omega arith; within = λ n x y. x; few = omega arith }

product_push : (v : ℕ → ℕ) (xs : List ℕ) (x : ℕ) → product_of v (xs ++ x ∷ []) ≡ product_of v xs * factor v x
unfolding product_of
product_push v [] x = omega arith
product_push v (y ∷ ys) x = omega (arith, ap (λ k. factor v y * k) (product_push v ys x))

product_more : (v : ℕ → ℕ) (xs : List ℕ) (i : ℕ) → i < length xs → product_of v (take (i + 1) xs) ≡ product_of v (take i xs) * factor v (get_or xs i 0)
product_more v xs i h = ap (product_of v) (take_more xs i 0 h) ∙ product_push v (take i xs) (get_or xs i 0)

degree_more : (xs : List ℕ) (i : ℕ) → i < length xs → degree (take (i + 1) xs) ≡ degree (take i xs) + one (get_or xs i 0)
degree_more xs i h = sum_by_more (λ x. cond (nat_lt 0 x) 1 0) xs i 0 h

pub timed_more : {a b mid out : List ℕ} {i : ℕ} → Timed a b mid i → i < length b → IsProduct mid (get_or b i 0 ∷ []) out → Timed a b out (i + 1)
timed_more {a} {b} {mid} {out} {i} t h p = record {
  is = λ v truths.
      let first = ap (λ k. k * product_of v (get_or b i 0 ∷ [])) (t.is v truths) in
      let last = ap (λ k. product_of v a * k) (product_more v b i h) in
      let single = ap (λ k. product_of v a * product_of v (take i b) * k) (product_one v (get_or b i 0)) in
      omega (arith, p.is v truths, first, last, single);
  within = λ n x y. p.within n (t.within n x y) (All-cons (λ x. x < n) (get_or b i 0) [] (All-get_or (λ x. x < n) b i 0 h y) (All-nil (λ x. x < n)));
  few = omega (arith, p.few, t.few, degree_more b i h, degree_one (get_or b i 0));
}

pub timed_end : {a b out : List ℕ} {i : ℕ} → Timed a b out i → length b ≤ i → IsProduct a b out
timed_end {a} {b} {out} {i} t h =
    let e : take i b ≡ b = take_all i b h in
    record {
      is = λ v truths. t.is v truths ∙ ap (λ l. product_of v a * product_of v l) e;
      within = t.within;
      few = omega (arith, t.few, ap degree e);
    }
