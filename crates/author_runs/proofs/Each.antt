-- What holds of each item of a list, item by item.
use Rattle.std.proofs.Common.{◌≡◌, ◌<◌, ◌≤◌, ◌+◌, arith, ℕ, zero, suc, Bool, true, false, cond, List, [], ◌∷◌, ◌++◌, length, map, Option, Some, None, slice_get, refl, sym, ap, ◌∙◌, subst}
use Rattle.std.proofs.lemmas.Bool.{or_right}
use Rattle.std.specs.List.{Contains, find, flat_map, list_any, slice_index_or}
use Rattle.std.proofs.lemmas.List.Elements.{Contains-append_right}
use Rattle.c_core.specs.Places.{first_some}
use Rattle.author_runs.proofs.OneCall.{number}

abbrev pub Each : {A : Type 0} → (A → Type 0) → List A → Type 0
Each P [] = Unit {0}
Each P (x ∷ xs) = P x × Each P xs

module _ {A : Type 0} (P : A → Type 0) where
  pub each_front : (xs ys : List A) → Each P (xs ++ ys) → Each P xs
  each_front [] ys h = tt
  each_front (x ∷ xs) ys h = (h.0, each_front xs ys h.1)

  pub each_back : (xs ys : List A) → Each P (xs ++ ys) → Each P ys
  each_back [] ys h = h
  each_back (x ∷ xs) ys h = each_back xs ys h.1

  pub each_contained : (xs : List A) → ((x : A) → Contains xs x → P x) → Each P xs
  each_contained [] h = tt
  each_contained (x ∷ xs) h =
      (h x (0, omega arith, refl), each_contained xs (λ y c. h y (Contains-append_right (x ∷ []) xs y c)))

  pub each_at : (xs : List A) (i : ℕ) (x : A) → slice_get xs i ≡ Some x → Each P xs → P x
  each_at [] i x e h = absurd (cc)
  each_at (y ∷ xs) zero x e h = let same : y ≡ x = cc in subst P same h.0
  each_at (y ∷ xs) (suc i) x e h = each_at xs i x e h.1

pub each_flat : {A B : Type 0} (P : B → Type 0) (f : A → List B) (xs : List A) → Each P (flat_map f xs)
    → Each (λ x. Each P (f x)) xs
each_flat P f [] h = tt
each_flat P f (x ∷ xs) h =
    (each_front P (f x) (flat_map f xs) h, each_flat P f xs (each_back P (f x) (flat_map f xs) h))

pub each_both : {A : Type 0} (P Q : A → Type 0) (xs : List A) → Each P xs → Each Q xs → Each (λ x. P x × Q x) xs
each_both P Q [] h g = tt
each_both P Q (x ∷ xs) h g = ((h.0, g.0), each_both P Q xs h.1 g.1)

-- ---- the only one that passes a test

module _ {A : Type 0} (q : A → Bool) where
  some_pass : (xs : List A) (x : A) (k : ℕ) → k < length xs → slice_index_or xs k x ≡ x → q x ≡ true → 1 ≤ number q xs
  some_pass [] x k lt e h = absurd (omega (arith, lt))
  some_pass (y ∷ xs) x zero lt e h = let g : q y ≡ true = ap q e ∙ h in rw g (omega arith)
  some_pass (y ∷ xs) x (suc k) lt e h = let g = some_pass xs x k (omega (arith, lt)) e h in omega (arith, g)

  -- the answer of the only one that has one
  module _ {B : Type 0} (g : A → Option B) (passes : (y : A) (b : B) → g y ≡ Some b → q y ≡ true) where
    only_by : (y : A) (xs : List A) (o : Option B) (x : A) (b : B) (k : ℕ) → g y ≡ o → number q (y ∷ xs) ≤ 1
        → k < length (y ∷ xs) → slice_index_or (y ∷ xs) k x ≡ x → g x ≡ Some b
        → (number q xs ≤ 1 → (j : ℕ) → j < length xs → slice_index_or xs j x ≡ x → first_some (map g xs) ≡ Some b)
        → first_some (o ∷ map g xs) ≡ Some b
    only_by y xs None x b zero e few lt at h on = absurd (let same : g y ≡ g x = ap g at in cc)
    only_by y xs (Some c) x b zero e few lt at h on = sym e ∙ ap g at ∙ h
    only_by y xs None x b (suc k) e few lt at h on = on (omega (arith, few)) k (omega (arith, lt)) at
    only_by y xs (Some c) x b (suc k) e few lt at h on =
        let first : q y ≡ true = passes y c e in
        let one : number q (y ∷ xs) ≡ 1 + number q xs = rw first refl in
        let other = some_pass xs x k (omega (arith, lt)) at (passes x b h) in
        absurd (omega (arith, few, one, other))

    only_at : (xs : List A) (x : A) (b : B) (k : ℕ) → number q xs ≤ 1 → k < length xs → slice_index_or xs k x ≡ x
        → g x ≡ Some b → first_some (map g xs) ≡ Some b
    only_at [] x b k few lt at h = absurd (omega (arith, lt))
    only_at (y ∷ xs) x b k few lt at h =
        only_by y xs (g y) x b k refl few lt at h (λ few' j lt' at'. only_at xs x b j few' lt' at' h)

    pub only : (xs : List A) (x : A) (b : B) → number q xs ≤ 1 → Contains xs x → g x ≡ Some b
        → first_some (map g xs) ≡ Some b
    only xs x b few c h = only_at xs x b c.0 few c.1 c.2 h

pub find_first : {A : Type 0} (r : A → Bool) (xs : List A)
    → find r xs ≡ first_some (map (λ x. cond (r x) (Some x) None) xs)
find_first r [] = refl
find_first r (x ∷ xs) = by (r x) x (find r xs) _ (find_first r xs)
  where
    by : {A : Type 0} (t : Bool) (x : A) (o : Option A) (os : List (Option A)) → o ≡ first_some os
        → cond t (Some x) o ≡ first_some (cond t (Some x) None ∷ os)
    by true x o os e = refl
    by false x o os e = e

pub each_map : {A B : Type 0} (P : B → Type 0) (f : A → B) (xs : List A) → Each P (map f xs) → Each (λ x. P (f x)) xs
each_map P f [] h = tt
each_map P f (x ∷ xs) h = (h.0, each_map P f xs h.1)

any_at : {A : Type 0} (q : A → Bool) (xs : List A) (x : A) (k : ℕ) → k < length xs → slice_index_or xs k x ≡ x
    → q x ≡ true → list_any q xs ≡ true
any_at q [] x k lt e h = absurd (omega (arith, lt))
any_at q (y ∷ xs) x zero lt e h = let g : q y ≡ true = ap q e ∙ h in rw g refl
any_at q (y ∷ xs) x (suc k) lt e h = or_right (q y) (list_any q xs) (any_at q xs x k (omega (arith, lt)) e h)

pub any_contained : {A : Type 0} (q : A → Bool) (xs : List A) (x : A) → Contains xs x → q x ≡ true
    → list_any q xs ≡ true
any_contained q xs x c h = any_at q xs x c.0 c.1 c.2 h
