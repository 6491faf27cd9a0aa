-- Lists of numbers that are picked by a test.
use Rattle.std.proofs.Common.{◌≡◌, ◌⊎◌, ℕ, zero, suc, ◌+◌, ◌<◌, ◌≤◌, Bool, true, false, cond, nat_eq, ◌||◌, List, [], ◌∷◌, ◌++◌, length, get_or, refl, sym, ap, ◌∙◌, subst, inl, inr, ⊎_elim, arith, true≢false, eqb-true, eq-eqb}
use Rattle.std.specs.Prelude.{IsTrue}
use Rattle.std.proofs.lemmas.Bool.{cases_lt, or_left, or_right, or_cases}
use Rattle.c_meaning.specs.Parts.{some_of, those, is_in, numbers_from}

or_assoc : (p q r : Bool) → (p || (q || r)) ≡ ((p || q) || r)
or_assoc true q r = refl
or_assoc false q r = refl

pub some_append : {A : Type 0} (q : A → Bool) (xs ys : List A) → some_of q (xs ++ ys) ≡ (some_of q xs || some_of q ys)
some_append q [] ys = refl
some_append q (x ∷ xs) ys = ap (λ b. q x || b) (some_append q xs ys) ∙ or_assoc (q x) (some_of q xs) (some_of q ys)

-- two tests that are true together are one
pub same_truth : (a b : Bool) → (IsTrue a → IsTrue b) → (IsTrue b → IsTrue a) → a ≡ b
same_truth true b f g = sym (f refl)
same_truth false true f g = g refl
same_truth false false f g = refl

pub not_both : {A : Type 0} → (b : Bool) → b ≡ false → IsTrue b → A
not_both b f t = absurd (true≢false (sym t ∙ f))

pub in_head : (x : ℕ) (xs : List ℕ) → IsTrue (is_in x (x ∷ xs))
in_head x xs = or_left _ _ (eq-eqb x x refl)

pub in_tail : (x y : ℕ) (xs : List ℕ) → IsTrue (is_in x xs) → IsTrue (is_in x (y ∷ xs))
in_tail x y xs m = or_right (nat_eq x y) _ m

pub in_cons : (x y : ℕ) (xs : List ℕ) → IsTrue (is_in x (y ∷ xs)) → (x ≡ y) ⊎ IsTrue (is_in x xs)
in_cons x y xs m = ⊎_elim (λ e. inl (eqb-true x y e)) inr (or_cases _ _ m)

pub at_index : (xs : List ℕ) (i d : ℕ) → i < length xs → IsTrue (is_in (get_or xs i d) xs)
at_index [] i d h = absurd (omega arith)
at_index (x ∷ xs) zero d h = in_head x xs
at_index (x ∷ xs) (suc i) d h = in_tail (get_or xs i d) x xs (at_index xs i d (omega arith))

pub some_from : (q : ℕ → Bool) (xs : List ℕ) (x : ℕ) → IsTrue (is_in x xs) → IsTrue (q x) → IsTrue (some_of q xs)
some_from q [] x m h = m
some_from q (y ∷ ys) x m h = ⊎_elim (λ e. or_left _ _ (subst (λ n. IsTrue (q n)) e h)) (λ n. or_right (q y) _ (some_from q ys x n h)) (in_cons x y ys m)

pub some_member : (q : ℕ → Bool) (xs : List ℕ) → IsTrue (some_of q xs) → (x : ℕ) × IsTrue (is_in x xs) × IsTrue (q x)
some_member q [] h = absurd (true≢false (sym h))
some_member q (y ∷ ys) h =
    ⊎_elim (λ e. (y, in_head y ys, e)) (λ n. let r = some_member q ys n in (r.0, in_tail r.0 y ys r.1, r.2)) (or_cases _ _ h)

-- a test finds the same in lists of the same members
pub same_some : (q : ℕ → Bool) (xs ys : List ℕ) → ((x : ℕ) → IsTrue (is_in x xs) → IsTrue (is_in x ys)) → ((x : ℕ) → IsTrue (is_in x ys) → IsTrue (is_in x xs)) → some_of q xs ≡ some_of q ys
same_some q xs ys f g =
    same_truth _ _ (λ h. let r = some_member q xs h in some_from q ys r.0 (f r.0 r.1) r.2) (λ h. let r = some_member q ys h in some_from q xs r.0 (g r.0 r.1) r.2)

-- the picked numbers: in the list, and the test holds
pub those_in : (q : ℕ → Bool) (xs : List ℕ) (x : ℕ) → IsTrue (is_in x (those q xs)) → IsTrue (is_in x xs) × IsTrue (q x)
those_in q [] x m = absurd (true≢false (sym m))
those_in q (y ∷ ys) x m = by_test (q y) refl (those_in q ys x) m
  where
    by_test : (b : Bool) → q y ≡ b → (IsTrue (is_in x (those q ys)) → IsTrue (is_in x ys) × IsTrue (q x)) → IsTrue (is_in x (cond b (y ∷ those q ys) (those q ys))) → IsTrue (is_in x (y ∷ ys)) × IsTrue (q x)
    by_test true e ih m =
        ⊎_elim (λ s. (subst (λ n. IsTrue (is_in n (y ∷ ys))) (sym s) (in_head y ys), subst (λ n. IsTrue (q n)) (sym s) e)) (λ n. let r = ih n in (in_tail x y ys r.0, r.1)) (in_cons x y (those q ys) m)
    by_test false e ih m = let r = ih m in (in_tail x y ys r.0, r.1)

pub in_those : (q : ℕ → Bool) (xs : List ℕ) (x : ℕ) → IsTrue (is_in x xs) → IsTrue (q x) → IsTrue (is_in x (those q xs))
in_those q [] x m h = m
in_those q (y ∷ ys) x m h = by_test (q y) refl (λ n. in_those q ys x n h) (in_cons x y ys m)
  where
    by_test : (b : Bool) → q y ≡ b → (IsTrue (is_in x ys) → IsTrue (is_in x (those q ys))) → (x ≡ y) ⊎ IsTrue (is_in x ys) → IsTrue (is_in x (cond b (y ∷ those q ys) (those q ys)))
    by_test true e ih c = ⊎_elim (λ s. subst (λ n. IsTrue (is_in n (y ∷ those q ys))) (sym s) (in_head y (those q ys))) (λ n. in_tail x y (those q ys) (ih n)) c
    by_test false e ih c = ⊎_elim (λ s. not_both (q y) e (subst (λ n. IsTrue (q n)) s h)) ih c

pub those_same : (q r : ℕ → Bool) (xs : List ℕ) → ((x : ℕ) → IsTrue (is_in x xs) → q x ≡ r x) → those q xs ≡ those r xs
those_same q r [] h = refl
those_same q r (x ∷ xs) h =
    ap (λ b. cond b (x ∷ those q xs) (those q xs)) (h x (in_head x xs)) ∙ ap (λ l. cond (r x) (x ∷ l) l) (those_same q r xs (λ y m. h y (in_tail y x xs m)))

-- a picked list picks itself
pub those_again : (q : ℕ → Bool) (xs : List ℕ) → those (λ x. is_in x (those q xs)) xs ≡ those q xs
those_again q xs = those_same _ q xs (λ x m. same_truth _ _ (λ h. (those_in q xs x h).1) (λ h. in_those q xs x m h))

-- a weaker test picks as many or more
pub those_more : (q r : ℕ → Bool) (xs : List ℕ) → ((x : ℕ) → IsTrue (q x) → IsTrue (r x)) → length (those q xs) ≤ length (those r xs)
those_more q r [] h = omega arith
those_more q r (x ∷ xs) h = by_tests (q x) (r x) (h x) (those_more q r xs h)
  where
    by_tests : (a b : Bool) → (IsTrue a → IsTrue b) → length (those q xs) ≤ length (those r xs) → length (cond a (x ∷ those q xs) (those q xs)) ≤ length (cond b (x ∷ those r xs) (those r xs))
    by_tests true true f ih = omega arith
    by_tests true false f ih = absurd (true≢false (sym (f refl)))
    by_tests false true f ih = omega arith
    by_tests false false f ih = ih

-- and the same where it picks no more
pub those_stay : (q r : ℕ → Bool) (xs : List ℕ) → ((x : ℕ) → IsTrue (q x) → IsTrue (r x)) → length (those r xs) ≤ length (those q xs) → those r xs ≡ those q xs
those_stay q r [] h l = refl
those_stay q r (x ∷ xs) h l = by_tests (q x) (r x) (h x) (those_more q r xs h) (those_stay q r xs h) l
  where
    by_tests : (a b : Bool) → (IsTrue a → IsTrue b) → length (those q xs) ≤ length (those r xs) → (length (those r xs) ≤ length (those q xs) → those r xs ≡ those q xs) → length (cond b (x ∷ those r xs) (those r xs)) ≤ length (cond a (x ∷ those q xs) (those q xs))
        → cond b (x ∷ those r xs) (those r xs) ≡ cond a (x ∷ those q xs) (those q xs)
    by_tests true true f more ih l = ap (λ l. x ∷ l) (ih (omega arith))
    by_tests true false f more ih l = absurd (true≢false (sym (f refl)))
    by_tests false true f more ih l = absurd (omega arith)
    by_tests false false f more ih l = ih l

pub those_within : (q : ℕ → Bool) (xs : List ℕ) → length (those q xs) ≤ length xs
those_within q [] = omega arith
those_within q (x ∷ xs) = by_test (q x) (those_within q xs)
  where
    by_test : (b : Bool) → length (those q xs) ≤ length xs → length (cond b (x ∷ those q xs) (those q xs)) ≤ length (x ∷ xs)
    by_test true ih = omega arith
    by_test false ih = omega arith

pub length_numbers : (i n : ℕ) → length (numbers_from i n) ≡ n
length_numbers i zero = refl
length_numbers i (suc n) = ap (λ k. suc k) (length_numbers (suc i) n)

pub in_numbers : (i n f : ℕ) → i ≤ f → f < i + n → IsTrue (is_in f (numbers_from i n))
in_numbers i zero f low high = absurd (omega arith)
in_numbers i (suc n) f low high =
    ⊎_elim (λ l. in_tail f i (numbers_from (suc i) n) (in_numbers (suc i) n f (omega arith) (omega arith))) (λ g. let e : f ≡ i = omega arith in subst (λ x. IsTrue (is_in x (i ∷ numbers_from (suc i) n))) (sym e) (in_head i (numbers_from (suc i) n))) (cases_lt i f)

pub numbers_in : (i n f : ℕ) → IsTrue (is_in f (numbers_from i n)) → (i ≤ f) × (f < i + n)
numbers_in i zero f m = absurd (true≢false (sym m))
numbers_in i (suc n) f m =
    ⊎_elim (λ e. (omega arith, omega arith)) (λ k. let r = numbers_in (suc i) n f k in (omega arith, omega arith)) (in_cons f i (numbers_from (suc i) n) m)
