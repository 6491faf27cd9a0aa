-- Tallies of functions, one by one.
use Rattle.std.proofs.Common.{◌≡◌, ◌<◌, ◌≤◌, ℕ, zero, suc, ◌+◌, ⊎_elim, Bool, List, [], ◌∷◌, ◌++◌, length, Option, Some, None, slice_get, ap, sym, ◌∙◌, subst, arith}
use Rattle.std.proofs.lemmas.Bool.{cases_lt}
use Rattle.std.proofs.lemmas.List.{length-map, map-append}
use Rattle.std.proofs.lemmas.Option.{slice_get_past}
use Rattle.sym_weight.specs.declared.cost.Tally as rust
use Rattle.sym_weight.specs.Tally.{AreTallied, IsTallied, IsTalliedIf, Tally, tallies_view, tally_view}

-- what holds at each place, and of what is appended, at its place
pushed : (R : ℕ → Option Tally → Type 0) (xs : List Tally) (x : Tally) → ((i : ℕ) → i < length xs → R i (slice_get xs i)) → R (length xs) (Some x) → (i : ℕ) → i < length xs + 1 → R i (slice_get (xs ++ x ∷ []) i)
pushed R [] x h k zero l = k
pushed R [] x h k (suc i) l = absurd (omega arith)
pushed R (y ∷ xs) x h k zero l = h zero (omega arith)
pushed R (y ∷ xs) x h k (suc i) l = pushed (λ j. R (suc j)) xs x (λ j m. h (suc j) (omega arith)) k i (omega arith)

-- the functions so far are tallied
abbrev pub AreSoFar : (ℕ → Bool) → List Tally → List Tally → ℕ → Type 0
AreSoFar q got whole n = (i : ℕ) → i < n → IsTalliedIf (q i) (slice_get got i) (slice_get whole i)

-- one function more
pub tallied_on : (q : ℕ → Bool) (whole : List Tally) (old new : List rust.Tally) (tally : rust.Tally) (w : Tally) (n : ℕ) → length old ≡ n → new ≡ old ++ tally ∷ [] → slice_get whole n ≡ Some w → IsTallied (q n) (tally_view tally) w
    → AreSoFar q (tallies_view old) whole n → AreSoFar q (tallies_view new) whole (n + 1)
tallied_on q whole old new tally w n count e at is h =
    let counted : length (tallies_view old) ≡ n = length-map old tally_view ∙ count in
    subst (λ m. AreSoFar q (tallies_view new) whole (m + 1)) counted
    (subst (λ xs. AreSoFar q xs whole (length (tallies_view old) + 1)) (sym (ap tallies_view e ∙ map-append tally_view old (tally ∷ [])))
    (pushed (λ i o. IsTalliedIf (q i) o (slice_get whole i)) (tallies_view old) (tally_view tally)
    (subst (AreSoFar q (tallies_view old) whole) (sym counted) h)
    (subst (λ m. IsTalliedIf (q m) (Some (tally_view tally)) (slice_get whole m)) (sym counted) (subst (IsTalliedIf (q n) (Some (tally_view tally))) (sym at) is))))

-- all of them
pub all_tallied : (q : ℕ → Bool) (got whole : List Tally) (n : ℕ) → length got ≡ n → length whole ≡ n → AreSoFar q got whole n → AreTallied q got whole
all_tallied q got whole n a b h f = ⊎_elim (h f) beyond (cases_lt f n)
  where
    beyond : n ≤ f → IsTalliedIf (q f) (slice_get got f) (slice_get whole f)
    beyond l = subst (λ o. IsTalliedIf (q f) o (slice_get whole f)) (sym (slice_get_past got f (omega (arith, a, l)))) (subst (λ o. IsTalliedIf (q f) None o) (sym (slice_get_past whole f (omega (arith, b, l)))) tt)
