-- The failing bits of a last state, as the evaluator tells them, and what a run's end says of each.
use Rattle.std.proofs.Common.{◌≡◌, ℕ, zero, suc, ◌+◌, ◌↔◌, Bool, true, false, List, [], ◌∷◌, length, map, refl, sym, ◌∙◌, ap, arith, Some, None}
use Rattle.std.specs.Prelude.{slice_get}
use Rattle.std.proofs.lemmas.Option.{same_Some, slice_get_within}
use Rattle.c_meaning.specs.declared.run.Duty.{Duty}
use Rattle.c_meaning.specs.declared.run.HavocEnd.{HavocEnd}
use Rattle.c_meaning.specs.declared.run.HavocEnd.TheVariants.{Passed, Dismissed, Failed}
use Rattle.c_meaning.specs.Havoc.{Stopped, Passes, Dismisses, Fails, end_among}
use Rattle.c_meaning.specs.Duties.{number_among}
use Rattle.sym_state.specs.Standing.{marks, number_of_end}

abbrev first_of : {A : Type 0} → A → List A → A
first_of d [] = d
first_of d (x ∷ xs) = x

abbrev rest_of : {A : Type 0} → List A → List A
rest_of [] = []
rest_of (x ∷ xs) = xs

false_at : {A : Type 0} (f : A → Bool) (x a : A) → f x ≡ false → x ≡ a → f a ≡ true → ⊥
false_at f x a h e t = let q : false ≡ true = sym h ∙ ap f e ∙ t in cc

-- the i-th of these is true exactly where i + 1 is the number that is marked
pub mark_at : {A : Type 0} (f : A → Bool) (xs : List A) (k i : ℕ) (a : A) → map f xs ≡ marks k (length xs) → slice_get xs i ≡ Some a → (f a ≡ true) ↔ (k ≡ i + 1)
mark_at f [] k i a e at = absurd (omega (arith, slice_get_within [] i a at))
mark_at f (x ∷ xs) zero zero a e at = (λ h. absurd (false_at f x a (ap (first_of true) e) (same_Some x a at) h), λ h. absurd (omega (arith, h)))
mark_at f (x ∷ xs) zero (suc i) a e at = let more = mark_at f xs zero i a (ap rest_of e) at in (λ h. absurd (omega (arith, more.0 h)), λ h. absurd (omega (arith, h)))
mark_at f (x ∷ xs) (suc zero) zero a e at = (λ h. omega arith, λ h. ap f (sym (same_Some x a at)) ∙ ap (first_of true) e)
mark_at f (x ∷ xs) (suc zero) (suc i) a e at = let more = mark_at f xs zero i a (ap rest_of e) at in (λ h. absurd (omega (arith, more.0 h)), λ h. absurd (omega (arith, h)))
mark_at f (x ∷ xs) (suc (suc k)) zero a e at = (λ h. absurd (false_at f x a (ap (first_of true) e) (same_Some x a at) h), λ h. absurd (omega (arith, h)))
mark_at f (x ∷ xs) (suc (suc k)) (suc i) a e at = let more = mark_at f xs (suc k) i a (ap rest_of e) at in (λ h. omega (arith, more.0 h), λ h. more.1 (omega (arith, h)))

abbrev number_in : HavocEnd → ℕ
number_in Passed = 0
number_in Dismissed = 0
number_in (Failed n) = n

-- where the failing bits mark the end of a run, each is true exactly where the run ends at its obligation
pub ends_at : {A : Type 0} (f : A → Bool) (xs : List A) (ds : List Duty) (e : Stopped) (i : ℕ) (a : A) → map f xs ≡ marks (number_of_end ds e) (length xs) → slice_get xs i ≡ Some a
    → (f a ≡ true) ↔ (end_among ds e ≡ Failed (i + 1))
ends_at f xs ds Passes i a m at = let t = mark_at f xs 0 i a m at in (λ h. absurd (omega (arith, t.0 h)), λ h. absurd (omega (arith, ap number_in h)))
ends_at f xs ds Dismisses i a m at = let t = mark_at f xs 0 i a m at in (λ h. absurd (omega (arith, t.0 h)), λ h. absurd (omega (arith, ap number_in h)))
ends_at f xs ds (Fails d) i a m at = let t = mark_at f xs (number_among d ds) i a m at in (λ h. ap Failed (t.0 h), λ h. t.1 (ap number_in h))
