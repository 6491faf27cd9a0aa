-- Members of lists of numbers, and the functions called from expressions.
use Rattle.std.proofs.Common.{◌≡◌, ◌⊎◌, ◌<◌, ◌≤◌, ◌+◌, ℕ, zero, suc, Bool, true, false, cond, ◌||◌, nat_eq, List, [], ◌∷◌, length, refl, sym, ◌∙◌, subst, ⊎_elim, arith, true≢false}
use Rattle.std.proofs.lemmas.Bool.{or_left, or_right, or_cases}
use Rattle.std.proofs.lemmas.Bool.Decides.{nat_tests}
use Rattle.c_core.specs.Tree.{Exp, Program}
use Rattle.c_meaning.specs.Parts.{some_of, those, is_in, numbers_from, some_node, calls, fulls_of_function}
use Rattle.c_meaning.specs.Changed.{called_from}
use Rattle.c_calls.specs.Calling.{directly, further}
use Rattle.c_calls.proofs.CallingLaws.{all_called}
use Rattle.c_frames.proofs.CellLaws.{same_number}

pub some_in : (q : ℕ → Bool) (x : ℕ) (xs : List ℕ) → is_in x xs ≡ true → q x ≡ true → some_of q xs ≡ true
some_in q x [] h g = absurd (true≢false (sym h))
some_in q x (y ∷ xs) h g = ⊎_elim (λ e. or_left _ _ (subst (λ z. q z ≡ true) (same_number x y e) g)) (λ r. or_right _ _ (some_in q x xs r g)) (or_cases (nat_eq x y) (is_in x xs) h)

pub in_those : (q : ℕ → Bool) (x : ℕ) (xs : List ℕ) → is_in x xs ≡ true → q x ≡ true → is_in x (those q xs) ≡ true
in_those q x [] h g = h
in_those q x (y ∷ xs) h g = by (q y) refl (or_cases (nat_eq x y) (is_in x xs) h) (λ r. in_those q x xs r g)
  where
    by : (b : Bool) → q y ≡ b → (nat_eq x y ≡ true) ⊎ (is_in x xs ≡ true) → (is_in x xs ≡ true → is_in x (those q xs) ≡ true) → is_in x (cond b (y ∷ those q xs) (those q xs)) ≡ true
    by true e c f = ⊎_elim (λ s. or_left _ _ s) (λ r. or_right _ _ (f r)) c
    by false e c f = ⊎_elim (λ s. absurd (true≢false (sym (subst (λ z. q z ≡ true) (same_number x y s) g) ∙ e))) f c

pub in_numbers : (i n x : ℕ) → i ≤ x → x < i + n → is_in x (numbers_from i n) ≡ true
in_numbers i zero x l u = absurd (omega (arith, l, u))
in_numbers i (suc n) x l u = by (nat_eq x i) refl (λ m. in_numbers (suc i) n x m (omega (arith, u)))
  where
    by : (b : Bool) → nat_eq x i ≡ b → (suc i ≤ x → is_in x (numbers_from (suc i) n) ≡ true) → (nat_eq x i || is_in x (numbers_from (suc i) n)) ≡ true
    by true e f = or_left _ _ e
    by false e f = or_right _ _ (f (grind (arith, nat_tests)))

-- called directly, or by a function that is called
module _ (p : Program) (es : List Exp) where
  pub called_first : (f : ℕ) → f < length p.functions → some_of (some_node (calls f)) es ≡ true → is_in f (called_from p es) ≡ true
  called_first f l h = ((all_called p es).members f).1 (directly f (l, h))

  pub called_further : (g h : ℕ) → is_in g (called_from p es) ≡ true → h < length p.functions → some_of (some_node (calls h)) (fulls_of_function p g) ≡ true → is_in h (called_from p es) ≡ true
  called_further g h i l c = ((all_called p es).members h).1 (further g h (((all_called p es).members g).0 i) (l, c))
