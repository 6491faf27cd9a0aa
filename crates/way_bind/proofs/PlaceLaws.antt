-- A place that a location names is one of its kind.
use Rattle.std.proofs.Common.{◌≡◌, refl, sym, eq-eqb, Bool, true, false, cond, ◌||◌, List, [], ◌∷◌, Option, Some, None}
use Rattle.std.proofs.lemmas.Bool.{or_left, or_right}
use Rattle.std.specs.List.{list_any, filter}
use Rattle.c_core.specs.Parts.{same_spot}
use Rattle.c_core.specs.Places.{lefter, leftmost}
use Rattle.c_core.specs.declared.number.Spot.{Spot}

same_self : (s : Spot) → same_spot s s ≡ true
same_self s = rw (eq-eqb s.line s.line refl) (eq-eqb s.column s.column refl)

same_as : (s x : Spot) → x ≡ s → same_spot s x ≡ true
same_as s x e = rw e (same_self s)

some_same : (a b : Spot) → Some a ≡ Some b → a ≡ b
some_same a b e = cc

chosen_by : (s x b : Spot) (xs : List Spot) (test : Bool) → cond test b x ≡ s → list_any (same_spot b) xs ≡ true → (same_spot s x || list_any (same_spot s) xs) ≡ true
chosen_by s x b xs true e h = or_right (same_spot s x) _ (rw (sym e) h)
chosen_by s x b xs false e h = or_left _ (list_any (same_spot s) xs) (same_as s x e)

chosen_from : (s x : Spot) (xs : List Spot) (o : Option Spot) → lefter x o ≡ s → ((b : Spot) → o ≡ Some b → list_any (same_spot b) xs ≡ true) → (same_spot s x || list_any (same_spot s) xs) ≡ true
chosen_from s x xs None e inner = or_left _ (list_any (same_spot s) xs) (same_as s x e)
chosen_from s x xs (Some b) e inner = chosen_by s x b xs _ e (inner b refl)

-- the leftmost is one of them
leftmost_is : (s : Spot) (xs : List Spot) → leftmost xs ≡ Some s → list_any (same_spot s) xs ≡ true
leftmost_is s [] h = absurd cc
leftmost_is s (x ∷ xs) h = chosen_from s x xs (leftmost xs) (some_same _ s h) (λ b. leftmost_is b xs)

any_kept : (q : Spot → Bool) (x : Spot) (xs kept : List Spot) (test : Bool) → (list_any q kept ≡ true → list_any q xs ≡ true) → list_any q (cond test (x ∷ kept) kept) ≡ true → (q x || list_any q xs) ≡ true
any_kept q x xs kept false inner h = or_right (q x) _ (inner h)
any_kept q x xs kept true inner h = either (q x) refl
  where
    either : (b : Bool) → q x ≡ b → (q x || list_any q xs) ≡ true
    either true e = or_left _ (list_any q xs) e
    either false e = or_right (q x) _ (inner (rw e at h))

any_filtered : (q keep : Spot → Bool) (xs : List Spot) → list_any q (filter keep xs) ≡ true → list_any q xs ≡ true
any_filtered q keep [] h = h
any_filtered q keep (x ∷ xs) h = any_kept q x xs (filter keep xs) (keep x) (any_filtered q keep xs) h

-- so is the leftmost of some of them
pub leftmost_among : (keep : Spot → Bool) (s : Spot) (xs : List Spot) → leftmost (filter keep xs) ≡ Some s → list_any (same_spot s) xs ≡ true
leftmost_among keep s xs h = any_filtered (same_spot s) keep xs (leftmost_is s (filter keep xs) h)
