-- Sums over members of a list, and over all numbers below a bound.
use Rattle.std.proofs.Common.{◌≡◌, ◌≤◌, ◌<◌, ◌+◌, ℕ, zero, suc, Bool, true, false, cond, nat_eq, nat_lt, List, [], ◌∷◌, length, Option, Some, slice_get, refl, sym, ap, ◌∙◌, arith}
use Rattle.std.proofs.lemmas.Bool.Decides.{nat_tests}
use Rattle.c_core.specs.Scope.{times_in}
use Rattle.c_frames.proofs.CellLaws.{same_number}

-- so often a number
abbrev pub copies : ℕ → ℕ → ℕ
copies zero v = 0
copies (suc t) v = v + copies t v

pub copies_few : (t u v : ℕ) → t ≤ u → copies t v ≤ copies u v
copies_few zero u v l = omega arith
copies_few (suc t) zero v l = absurd (omega (arith, l))
copies_few (suc t) (suc u) v l = let r = copies_few t u v (omega (arith, l)) in omega (arith, r)

abbrev pub sum_of : (ℕ → ℕ) → List ℕ → ℕ
sum_of h [] = 0
sum_of h (x ∷ xs) = h x + sum_of h xs

-- over the numbers below n
abbrev pub sum_below : (ℕ → ℕ) → ℕ → ℕ
sum_below h zero = 0
sum_below h (suc n) = sum_below h n + h n

sum_same : (g h : ℕ → ℕ) (n : ℕ) → ((i : ℕ) → g i ≡ h i) → sum_below g n ≡ sum_below h n
sum_same g h zero f = refl
sum_same g h (suc n) f = let r = sum_same g h n f in omega (arith, r, f n)

pub sum_few : (g h : ℕ → ℕ) (n : ℕ) → ((i : ℕ) → g i ≤ h i) → sum_below g n ≤ sum_below h n
sum_few g h zero f = omega arith
sum_few g h (suc n) f = let r = sum_few g h n f in omega (arith, r, f n)

pub sum_both : (g h : ℕ → ℕ) (n : ℕ) → sum_below (λ i. g i + h i) n ≡ sum_below g n + sum_below h n
sum_both g h zero = refl
sum_both g h (suc n) = let r = sum_both g h n in omega (arith, r)

sum_none : (h : ℕ → ℕ) (n : ℕ) → sum_below (λ i. copies 0 (h i)) n ≡ 0
sum_none h zero = refl
sum_none h (suc n) = let r = sum_none h n in omega (arith, r)

-- one number more
one_more : (h : ℕ → ℕ) (x : ℕ) (xs : List ℕ) (i : ℕ) → copies (times_in i (x ∷ xs)) (h i) ≡ copies (times_in i xs) (h i) + cond (nat_eq i x) (h i) 0
one_more h x xs i = by (nat_eq i x)
  where
    by : (b : Bool) → copies (cond b (suc (times_in i xs)) (times_in i xs)) (h i) ≡ copies (times_in i xs) (h i) + cond b (h i) 0
    by true = omega arith
    by false = omega arith

absent : (h : ℕ → ℕ) (x n : ℕ) → n ≤ x → sum_below (λ i. cond (nat_eq i x) (h i) 0) n ≡ 0
absent h x zero l = refl
absent h x (suc n) l = by (nat_eq n x) refl (absent h x n (omega (arith, l)))
  where
    by : (b : Bool) → nat_eq n x ≡ b → sum_below (λ i. cond (nat_eq i x) (h i) 0) n ≡ 0 → sum_below (λ i. cond (nat_eq i x) (h i) 0) n + cond b (h n) 0 ≡ 0
    by true e r = let s = same_number n x e in absurd (omega (arith, s, l))
    by false e r = omega (arith, r)

picked : (h : ℕ → ℕ) (x n : ℕ) → x < n → sum_below (λ i. cond (nat_eq i x) (h i) 0) n ≡ h x
picked h x zero l = absurd (omega (arith, l))
picked h x (suc n) l = by (nat_eq n x) refl (λ m. picked h x n m)
  where
    by : (b : Bool) → nat_eq n x ≡ b → (x < n → sum_below (λ i. cond (nat_eq i x) (h i) 0) n ≡ h x) → sum_below (λ i. cond (nat_eq i x) (h i) 0) n + cond b (h n) 0 ≡ h x
    by true e f = let s = same_number n x e in let z = absent h x n (omega (arith, s)) in omega (arith, z, ap h s)
    by false e f = let r = f (grind (arith, nat_tests)) in omega (arith, r)

-- a list's sum goes over all numbers, each as often as it stands there
exchange : (h : ℕ → ℕ) (n : ℕ) → ((x : ℕ) → n ≤ x → h x ≡ 0) → (xs : List ℕ) → sum_of h xs ≡ sum_below (λ i. copies (times_in i xs) (h i)) n
exchange h n z [] = sym (sum_none h n)
exchange h n z (x ∷ xs) =
    let r = exchange h n z xs in
    let s = sum_same (λ i. copies (times_in i (x ∷ xs)) (h i)) (λ i. copies (times_in i xs) (h i) + cond (nat_eq i x) (h i) 0) n (one_more h x xs) in
    let t = sum_both (λ i. copies (times_in i xs) (h i)) (λ i. cond (nat_eq i x) (h i) 0) n in
    omega (arith, r, s, t, one)
  where
    one : sum_below (λ i. cond (nat_eq i x) (h i) 0) n ≡ h x
    one = by (nat_lt x n) refl
      where
        by : (b : Bool) → nat_lt x n ≡ b → sum_below (λ i. cond (nat_eq i x) (h i) 0) n ≡ h x
        by true e = picked h x n (grind (arith, nat_tests))
        by false e = let l : n ≤ x = grind (arith, nat_tests) in absent h x n l ∙ sym (z x l)

-- where no number stands in it more often than m says
pub sum_bound : (h m : ℕ → ℕ) (n : ℕ) → ((x : ℕ) → n ≤ x → h x ≡ 0) → (xs : List ℕ) → ((x : ℕ) → times_in x xs ≤ m x) → sum_of h xs ≤ sum_below (λ i. copies (m i) (h i)) n
sum_bound h m n z xs f =
    let e = exchange h n z xs in
    let l = sum_few (λ i. copies (times_in i xs) (h i)) (λ i. copies (m i) (h i)) n (λ i. copies_few (times_in i xs) (m i) (h i) (f i)) in
    omega (arith, e, l)

-- over the elements of a list, by their numbers
abbrev pub sum_list : {A : Type 0} → (Option A → ℕ) → List A → ℕ
sum_list g [] = 0
sum_list g (x ∷ xs) = g (Some x) + sum_list g xs

shifted : (h : ℕ → ℕ) (n : ℕ) → sum_below h (suc n) ≡ h 0 + sum_below (λ i. h (suc i)) n
shifted h zero = omega arith
shifted h (suc n) = let r = shifted h n in omega (arith, r)

pub sum_slice : {A : Type 0} (g : Option A → ℕ) (xs : List A) → sum_below (λ i. g (slice_get xs i)) (length xs) ≡ sum_list g xs
sum_slice g [] = refl
sum_slice g (x ∷ xs) = shifted (λ i. g (slice_get (x ∷ xs) i)) (length xs) ∙ ap (λ n. g (Some x) + n) (sum_slice g xs)
