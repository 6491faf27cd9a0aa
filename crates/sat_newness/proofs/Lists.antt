-- What stands at a place of a list, by `slice_get`.
use Rattle.std.proofs.Common.{◌≡◌, ◌≢◌, ℕ, zero, suc, ◌<◌, ◌⊎◌, inl, inr, Some, List, [], ◌∷◌, ◌++◌, length, take, ℤ, pos, refl, ◌∙◌, ap, subst, arith}
use Rattle.std.specs.Prelude.{slice_get, slice_set, slice_index_or}
use Rattle.std.specs.List.{Contains}
use Rattle.std.proofs.lemmas.Option.{none-some, same_Some, slice_get_within, slice_get-get_or, get_or_from_slice_get}

pub get_append : {A : Type 0} (xs ys : List A) (n : ℕ) (x : A) → slice_get xs n ≡ Some x → slice_get (xs ++ ys) n ≡ Some x
get_append [] ys n x e = absurd (none-some x e)
get_append (y ∷ xs) ys zero x e = e
get_append (y ∷ xs) ys (suc n) x e = get_append xs ys n x e

pub get_pushed : {A : Type 0} (xs : List A) (y : A) → slice_get (xs ++ y ∷ []) (length xs) ≡ Some y
get_pushed [] y = refl
get_pushed (x ∷ xs) y = get_pushed xs y

pub get_push : {A : Type 0} (xs : List A) (y : A) (n : ℕ) (x : A) → slice_get (xs ++ y ∷ []) n ≡ Some x → (slice_get xs n ≡ Some x) ⊎ ((n ≡ length xs) × (y ≡ x))
get_push [] y zero x e = inr (refl, same_Some y x e)
get_push [] y (suc n) x e = absurd (none-some x e)
get_push (z ∷ xs) y zero x e = inl e
get_push (z ∷ xs) y (suc n) x e = elim (get_push xs y n x e) as (λ _. (slice_get xs n ≡ Some x) ⊎ ((suc n ≡ suc (length xs)) × (y ≡ x))) [
  | inl h ↦ inl h
  | inr h ↦ inr (ap suc h.0, h.1)
]

pub get_front : {A : Type 0} (xs ys : List A) (n : ℕ) (x : A) → n < length xs → slice_get (xs ++ ys) n ≡ Some x → slice_get xs n ≡ Some x
get_front [] ys n x lt e = absurd (omega arith)
get_front (y ∷ xs) ys zero x lt e = e
get_front (y ∷ xs) ys (suc n) x lt e = get_front xs ys n x (omega arith) e

pub get_take : {A : Type 0} (q : ℕ) (xs : List A) (n : ℕ) (x : A) → slice_get (take q xs) n ≡ Some x → (n < q) × (slice_get xs n ≡ Some x)
get_take zero xs n x e = absurd (none-some x e)
get_take (suc q) [] n x e = absurd (none-some x e)
get_take (suc q) (y ∷ xs) zero x e = (omega arith, e)
get_take (suc q) (y ∷ xs) (suc n) x e = let h = get_take q xs n x e in (omega (arith, h.0), h.1)

pub get_taken : {A : Type 0} (q : ℕ) (xs : List A) (n : ℕ) (x : A) → n < q → slice_get xs n ≡ Some x → slice_get (take q xs) n ≡ Some x
get_taken zero xs n x lt e = absurd (omega arith)
get_taken (suc q) [] n x lt e = absurd (none-some x e)
get_taken (suc q) (y ∷ xs) zero x lt e = e
get_taken (suc q) (y ∷ xs) (suc n) x lt e = get_taken q xs n x (omega arith) e

-- between `Contains` and a place
pub contains_at : {A : Type 0} (xs : List A) (n : ℕ) (x : A) → slice_get xs n ≡ Some x → Contains xs x
contains_at xs n x e = (n, slice_get_within xs n x e, get_or_from_slice_get xs n x x e)

pub at_contains : {A : Type 0} (xs : List A) (x : A) → Contains xs x → (n : ℕ) × (slice_get xs n ≡ Some x)
at_contains xs x h = (h.0, slice_get-get_or xs h.0 x h.1 ∙ ap Some h.2)

-- after a write
pub get_set_same : {A : Type 0} (xs : List A) (n : ℕ) (y : A) → n < length xs → slice_get (slice_set xs n y) n ≡ Some y
get_set_same [] n y lt = absurd (omega arith)
get_set_same (x ∷ xs) zero y lt = refl
get_set_same (x ∷ xs) (suc n) y lt = get_set_same xs n y (omega arith)

pub get_set_other : {A : Type 0} (xs : List A) (n m : ℕ) (y : A) → m ≢ n → slice_get (slice_set xs n y) m ≡ slice_get xs m
get_set_other [] n m y h = refl
get_set_other (x ∷ xs) zero zero y h = absurd (h refl)
get_set_other (x ∷ xs) zero (suc m) y h = refl
get_set_other (x ∷ xs) (suc n) zero y h = refl
get_set_other (x ∷ xs) (suc n) (suc m) y h = get_set_other xs n m y (λ e. h (ap suc e))

-- the first and the others
pub cons_here : {A : Type 0} (x : A) (xs : List A) → Contains (x ∷ xs) x
cons_here x xs = (0, omega arith, refl)

pub cons_there : {A : Type 0} (x y : A) (xs : List A) → Contains xs y → Contains (x ∷ xs) y
cons_there x y xs c = (suc c.0, omega (arith, c.1), c.2)

pub cons_cases : {A : Type 0} (x y : A) (xs : List A) → Contains (x ∷ xs) y → (x ≡ y) ⊎ Contains xs y
cons_cases x y xs (zero, lt, e) = inl e
cons_cases x y xs (suc k, lt, e) = inr (k, omega arith, e)

pub item_at : (c items : List ℤ) (n : ℕ) → items ≡ c → n < length items → slice_get c n ≡ Some (slice_index_or items n (pos 0))
item_at c items n e lt = subst (λ (l : List ℤ). slice_get l n ≡ Some (slice_index_or items n (pos 0))) e (slice_get-get_or items n (pos 0) lt)
