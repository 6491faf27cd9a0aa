-- The table of values keeps up with the trail.
use Rattle.std.proofs.Common.{◌≡◌, ℕ, zero, suc, ◌+◌, ◌<◌, ◌≤◌, inl, inr, Bool, true, false, not, Option, Some, None, List, [], ◌∷◌, ◌++◌, length, take, ℤ, pos, negsuc, refl, sym, ◌∙◌, ap, subst, arith}
use Rattle.std.specs.Prelude.{slice_get, slice_set, unsigned_abs, replicate}
use mathlib.Core.Bool.{beq}
use lib.Signed.{lt_z}
use Rattle.std.proofs.lemmas.Bool.{cases_eq, lt-ltb}
use Rattle.std.proofs.lemmas.Option.{none-some, same_Some, slice_get_within, slice_get-get_or}
use Rattle.std.proofs.lemmas.List.{length_push, take_at, take-take, length-set}
use Rattle.clauses.specs.Tseitin.{number_of}
use Rattle.sat_core.specs.declared.trail.Assigned.{Assigned}
use Rattle.sat_core.specs.Trail.{Holds, HasValue}
use Rattle.sat_core.specs.Values.{Valued, Told, IsCut, IsValue, open_variables}
use Rattle.sat_newness.proofs.Lists.{get_take, get_append, get_push, get_pushed, get_set_same, get_set_other}
use Rattle.sat_core.proofs.Places.{value_uncut}

-- ---- what the table says of a number
holds_of : (t : List Assigned) (v : ℕ) (b : Bool) (x : ℤ) → Valued t v b → number_of (not b) v ≡ x → Holds t (length t) x
holds_of t v b x h e = record { at = h.at; entry = h.entry; before = slice_get_within t h.at h.entry h.there; there = h.there; is = ap (λ c. number_of (not c) h.entry.variable) h.value ∙ ap (number_of (not b)) h.variable ∙ e }

pub value_told : (t : List Assigned) (x : ℤ) (b : Bool) → Valued t (unsigned_abs x) b → IsValue t x (Some (beq b (lt_z (pos 0) x)))
value_told t (pos zero) true h = holds_of t 0 true (pos 0) h refl
value_told t (pos zero) false h = holds_of t 0 false (pos 0) h refl
value_told t (pos (suc n)) true h = subst (λ (s : Bool). IsValue t (pos (suc n)) (Some (beq true s))) (sym (lt-ltb 0 (suc n) (omega arith))) (holds_of t (suc n) true (pos (suc n)) h refl)
value_told t (pos (suc n)) false h = subst (λ (s : Bool). IsValue t (pos (suc n)) (Some (beq false s))) (sym (lt-ltb 0 (suc n) (omega arith))) (holds_of t (suc n) false (negsuc n) h refl)
value_told t (negsuc n) true h = holds_of t (suc n) true (pos (suc n)) h refl
value_told t (negsuc n) false h = holds_of t (suc n) false (negsuc n) h refl

pub value_of : (t : List Assigned) (v : ℕ) (b : Bool) → Valued t v b → HasValue t (length t) v
value_of t v b h = record { at = h.at; entry = h.entry; before = slice_get_within t h.at h.entry h.there; there = h.there; is = h.variable }

-- a variable that has no value
open_at : (values : List (Option Bool)) (t : List Assigned) (v : ℕ) → Told values t → (HasValue t (length t) v → ⊥) → (o : Option Bool) → slice_get values v ≡ Some o → slice_get values v ≡ Some None
open_at values t v h k None q = q
open_at values t v h k (Some b) q = absurd (k (value_of t v b (h.from v b q)))

pub open_of : (values : List (Option Bool)) (t : List Assigned) (v : ℕ) → Told values t → v < length values → (HasValue t (length t) v → ⊥) → slice_get values v ≡ Some None
open_of values t v h lt k = open_at values t v h k _ (slice_get-get_or values v None lt)

-- ---- one value more
pub told_push : (values : List (Option Bool)) (t : List Assigned) (e : Assigned) → Told values t → e.variable < length values → (HasValue t (length t) e.variable → ⊥) → Told (slice_set values e.variable (Some e.value)) (t ++ e ∷ [])
told_push values t e h lt k = record {
  onto = λ n f q. elim (get_push t e n f q) as (λ _. slice_get (slice_set values e.variable (Some e.value)) f.variable ≡ Some (Some f.value)) [
    | inl there ↦ get_set_other values e.variable f.variable (Some e.value) (λ same. k (record { at = n; entry = f; before = slice_get_within t n f there; there = there; is = same })) ∙ h.onto n f there
    | inr last ↦ subst (λ (g : Assigned). slice_get (slice_set values e.variable (Some e.value)) g.variable ≡ Some (Some g.value)) last.1 (get_set_same values e.variable (Some e.value) lt)
  ];
  from = λ v b q. elim (cases_eq v e.variable) as (λ _. Valued (t ++ e ∷ []) v b) [
    | inl same ↦
        let s : Some e.value ≡ Some b = same_Some (Some e.value) (Some b) (sym (get_set_same values e.variable (Some e.value) lt) ∙ ap (slice_get (slice_set values e.variable (Some e.value))) (sym same) ∙ q) in
        record { at = length t; entry = e; there = get_pushed t e; variable = sym same; value = same_Some e.value b s }
    | inr apart ↦
        let r = h.from v b (sym (get_set_other values e.variable v (Some e.value) apart) ∙ q) in
        record { at = r.at; entry = r.entry; there = get_append t (e ∷ []) r.at r.entry r.there; variable = r.variable; value = r.value }
  ];
}

one_less : (a : ℕ) → a < suc a
one_less a = omega arith

both_less : (a b : ℕ) → a < b → suc a < suc b
both_less a b h = omega arith

pub fewer_open : (values : List (Option Bool)) (v : ℕ) (b : Bool) → slice_get values v ≡ Some None → open_variables (slice_set values v (Some b)) < open_variables values
fewer_open [] v b q = absurd (none-some None q)
fewer_open (None ∷ xs) zero b q = one_less (open_variables xs)
fewer_open (Some c ∷ xs) zero b q = absurd (none-some c (sym (same_Some (Some c) None q)))
fewer_open (None ∷ xs) (suc v) b q = both_less (open_variables (slice_set xs v (Some b))) (open_variables xs) (fewer_open xs v b q)
fewer_open (Some c ∷ xs) (suc v) b q = fewer_open xs v b q

-- ---- one value less
pub told_pop : (values : List (Option Bool)) (t : List Assigned) (e : Assigned) → Told values (t ++ e ∷ []) → e.variable < length values → (HasValue t (length t) e.variable → ⊥) → Told (slice_set values e.variable None) t
told_pop values t e h lt k = record {
  onto = λ n f q. get_set_other values e.variable f.variable None (λ same. k (record { at = n; entry = f; before = slice_get_within t n f q; there = q; is = same })) ∙ h.onto n f (get_append t (e ∷ []) n f q);
  from = λ v b q. elim (cases_eq v e.variable) as (λ _. Valued t v b) [
    | inl same ↦ absurd (none-some b (same_Some None (Some b) (sym (get_set_same values e.variable None lt) ∙ ap (slice_get (slice_set values e.variable None)) (sym same) ∙ q)))
    | inr apart ↦
        let r = h.from v b (sym (get_set_other values e.variable v None apart) ∙ q) in
        elim (get_push t e r.at r.entry r.there) as (λ _. Valued t v b) [
          | inl there ↦ record { at = r.at; entry = r.entry; there = there; variable = r.variable; value = r.value }
          | inr last ↦ absurd (apart (sym r.variable ∙ ap (λ g. g.variable) (sym last.1)))
        ]
  ];
}

-- no values at all
pub told_none : (n : ℕ) → Told (replicate n None) []
told_none n = record { onto = λ k e q. absurd (none-some e q); from = λ v b q. absurd (nothing_told n v b q) }
  where
    nothing_told : (n v : ℕ) (b : Bool) → slice_get (replicate n None) v ≡ Some (Some b) → ⊥
    nothing_told zero v b q = none-some (Some b) q
    nothing_told (suc n) zero b q = none-some b (same_Some None (Some b) q)
    nothing_told (suc n) (suc v) b q = nothing_told n v b q

-- the front of a list, one shorter
pub front_less : {A : Type 0} (xs all : List A) (y : A) → xs ++ y ∷ [] ≡ take (length (xs ++ y ∷ [])) all → (xs ≡ take (length xs) all) × (slice_get all (length xs) ≡ Some y)
front_less xs all y h =
    let long : length xs ≤ length (xs ++ y ∷ []) = omega (arith, length_push xs y) in (
      sym (take_at xs (y ∷ []) (length xs) refl) ∙ ap (take (length xs)) h ∙ take-take (length xs) (length (xs ++ y ∷ [])) all long,
      (get_take (length (xs ++ y ∷ [])) all (length xs) y (ap (λ zs. slice_get zs (length xs)) (sym h) ∙ get_pushed xs y)).1,
    )

pub cut_pop : (all : List Assigned) (size kept counter : ℕ) (values : List (Option Bool)) (t u : List Assigned) (e : Assigned) → t ≡ u ++ e ∷ [] → ((n : ℕ) (f : Assigned) → slice_get all n ≡ Some f → f.variable < size)
    → ((n : ℕ) (f : Assigned) → slice_get all n ≡ Some f → HasValue all n f.variable → ⊥) → IsCut all size kept counter values t → IsCut all size kept (counter + 1) (slice_set values e.variable None) u
cut_pop all size kept counter values t u e q bounded once h =
    let f = front_less u all e (subst (λ (s : List Assigned). s ≡ take (length s) all) q h.front) in
    let lt : e.variable < length values = omega (arith, bounded (length u) e f.1, h.sized) in
    let k : length t ≡ length u + 1 = ap length q ∙ length_push u e in
    record {
      front = f.0;
      long = omega (arith, h.long);
      told = told_pop values u e (subst (λ (s : List Assigned). Told values s) q h.told) lt (λ a. once (length u) e f.1 (value_uncut all (length u) (length u) e.variable (subst (λ (s : List Assigned). HasValue s (length u) e.variable) f.0 a)));
      sized = length-set values e.variable None ∙ h.sized;
    }

pub cut_bound : (all : List Assigned) (size kept counter : ℕ) (values : List (Option Bool)) (t u : List Assigned) (e : Assigned) → t ≡ u ++ e ∷ [] → ((n : ℕ) (f : Assigned) → slice_get all n ≡ Some f → f.variable < size) → IsCut all size kept counter values t → e.variable < length values
cut_bound all size kept counter values t u e q bounded h =
    let f = front_less u all e (subst (λ (s : List Assigned). s ≡ take (length s) all) q h.front) in
    omega (arith, bounded (length u) e f.1, h.sized)
