-- What a list with one item more contains.
use Rattle.std.proofs.Common.{◌≡◌, zero, suc, ◌⊎◌, inl, inr, List, [], ◌∷◌, refl, arith}
use Rattle.std.specs.List.{Contains}

pub here : {A : Type 0} (x : A) (xs : List A) → Contains (x ∷ xs) x
here x xs = (0, omega arith, refl)

pub there : {A : Type 0} (x : A) (xs : List A) (y : A) → Contains xs y → Contains (x ∷ xs) y
there x xs y (k, lt, e) = (suc k, omega arith, e)

pub first_or_rest : {A : Type 0} (x : A) (xs : List A) (y : A) → Contains (x ∷ xs) y → (x ≡ y) ⊎ Contains xs y
first_or_rest x xs y (zero, lt, e) = inl e
first_or_rest x xs y (suc k, lt, e) = inr (k, omega arith, e)

pub none_in : {A : Type 0} (y : A) → Contains [] y → ⊥
none_in y (k, lt, e) = omega arith
