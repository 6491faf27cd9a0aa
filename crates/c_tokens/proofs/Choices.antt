-- Tests and options: what an answer says of its parts.
use Rattle.std.proofs.Common.{◌≡◌, ◌≢◌, Result, Ok, Err, IsErrAnd, ℕ, Bool, true, false, cond, not, ◌&&◌, ◌==◌, List, [], ◌∷◌, Option, Some, None, refl, sym, ap, ◌∙◌, arith, inl, inr}
use Rattle.std.specs.Option.{option_map}
use Rattle.std.specs.List.{list_all}
use Rattle.std.proofs.lemmas.Bool.Decides.{nat_tests}
use Rattle.c_tokens.specs.Characters.{Pairs}

pub both : (a b : Bool) → (a && b) ≡ true → (a ≡ true) × (b ≡ true)
both true b e = (refl, e)
both false b e = absurd (cc)

pub test_false : (a b : ℕ) → a ≢ b → (a == b) ≡ false
test_false a b h = grind (arith, nat_tests)

pub not_true : (b : Bool) → not b ≡ true → b ≡ false
not_true true e = absurd (cc)
not_true false e = refl

pub first_choice : {A : Type 0} (a : Bool) (x y : A) → a ≡ true → cond a x y ≡ x
first_choice a x y t = rw t refl

pub second_choice : {A : Type 0} (a b : Bool) (x y z : A) → a ≡ false → b ≡ true → cond a x (cond b y z) ≡ y
second_choice a b x y z f t = rw (f, t) refl

pub some_pair : {A B : Type 0} {a c : A} {b d : B} → ◌≡◌ {A = Option (A × B)} (Some (a, b)) (Some (c, d)) → (a ≡ c) × (b ≡ d)
some_pair {A = A} {B = B} {a = a} {c = c} {b = b} {d = d} e =
    let x : A × B = (a, b) in
    let y : A × B = (c, d) in
    let same : x ≡ y = cc in
    (ap (λ p. p.0) same, ap (λ p. p.1) same)

pub mapped : {A B : Type 0} (f : A → B) (o : Option A) (y : B) → option_map f o ≡ Some y → (x : A) × ((o ≡ Some x) × (f x ≡ y))
mapped f None y e = absurd (cc)
mapped f (Some x) y e = (x, (refl, cc))

-- what holds of each row of a table holds of each of its pairs
pub pair_passes : {X Y : Type 0} (p : X → Y → Bool) (rows : List (X × Y)) → list_all (λ row. p row.0 row.1) rows ≡ true → (x : X) (y : Y) → Pairs rows x y → p x y ≡ true
pair_passes p [] all x y h = absurd h
pair_passes p (row ∷ rows) all x y (inl h) = sym (ap (λ a. p a row.1) h.0 ∙ ap (p x) h.1) ∙ (both (p row.0 row.1) _ all).0
pair_passes p (row ∷ rows) all x y (inr h) = pair_passes p rows (both (p row.0 row.1) _ all).1 x y h

pub err_is : {T E : Type 0} {r : Result T E} {e : E} → IsErrAnd r (λ x. x ≡ e) → r ≡ Err e
err_is {r = Ok x} h = absurd h
err_is {r = Err x} h = ap Err h
