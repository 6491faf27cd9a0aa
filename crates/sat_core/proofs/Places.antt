-- Where values stand on the trail.
use Rattle.std.proofs.Common.{◌≡◌, ℕ, zero, suc, ◌<◌, ◌≤◌, inl, inr, Bool, true, false, not, Some, List, ◌++◌, length, take, ℤ, pos, negsuc, neg_ℤ, refl, sym, ◌∙◌, ap, arith}
use Rattle.std.specs.Prelude.{slice_get, unsigned_abs}
use Rattle.std.proofs.lemmas.Bool.{cases_lt}
use Rattle.std.proofs.lemmas.Option.{same_Some}
use Rattle.clauses.specs.Tseitin.{number_of}
use Rattle.sat_core.specs.declared.trail.Assigned.{Assigned}
use Rattle.sat_core.specs.Trail.{number, Holds, HasValue, IsTrail}
use Rattle.sat_newness.proofs.Lists.{get_front, get_append, get_take, get_taken}
use Rattle.sat_newness.proofs.Others.{abs_neg}

abs_number : (b : Bool) (v : ℕ) → unsigned_abs (number_of b v) ≡ v
abs_number true v = abs_neg (pos v)
abs_number false v = refl

pub variable_of : (e : Assigned) (x : ℤ) → number e ≡ x → e.variable ≡ unsigned_abs x
variable_of e x h = sym (abs_number (not e.value) e.variable) ∙ ap unsigned_abs h

-- a number that is its own opposite
pub no_zero : (x : ℤ) → x ≡ neg_ℤ x → unsigned_abs x ≡ 0
no_zero (pos zero) e = refl
no_zero (pos (suc n)) e = cc
no_zero (negsuc n) e = cc

pub same_entry : (t : List Assigned) (i j : ℕ) (e f : Assigned) → slice_get t i ≡ Some e → slice_get t j ≡ Some f → i ≡ j → e ≡ f
same_entry t i j e f a b q = same_Some e f (sym a ∙ ap (slice_get t) q ∙ b)

-- a variable has one place
pub one_place : (clauses : List (List ℤ)) (size : ℕ) (t : List Assigned) → IsTrail clauses size t → (i j : ℕ) (e f : Assigned) → slice_get t i ≡ Some e → slice_get t j ≡ Some f → e.variable ≡ f.variable → i ≡ j
one_place clauses size t h i j e f a b q = elim (cases_lt i j) as (λ _. i ≡ j) [
  | inl l ↦ absurd ((h.each j f b).first (record { at = i; entry = e; before = l; there = a; is = q }))
  | inr g ↦ elim (cases_lt j i) as (λ _. i ≡ j) [
    | inl l ↦ absurd ((h.each i e a).first (record { at = j; entry = f; before = l; there = b; is = sym q }))
    | inr k ↦ omega arith
  ]
]

pub consistent : (clauses : List (List ℤ)) (size : ℕ) (t : List Assigned) → IsTrail clauses size t → (n m : ℕ) (x : ℤ) → Holds t n x → Holds t m (neg_ℤ x) → ⊥
consistent clauses size t h n m x a b =
    let va : a.entry.variable ≡ unsigned_abs x = variable_of a.entry x a.is in
    let vb : b.entry.variable ≡ unsigned_abs x = variable_of b.entry (neg_ℤ x) b.is ∙ abs_neg x in
    let q : a.at ≡ b.at = one_place clauses size t h a.at b.at a.entry b.entry a.there b.there (va ∙ sym vb) in
    let e : a.entry ≡ b.entry = same_entry t a.at b.at a.entry b.entry a.there b.there q in
    let z : unsigned_abs x ≡ 0 = no_zero x (sym a.is ∙ ap number e ∙ b.is) in
    let p : 0 < a.entry.variable = (h.each a.at a.entry a.there).real in
    omega arith

pub valued : (t : List Assigned) (n : ℕ) (x : ℤ) → Holds t n x → HasValue t n (unsigned_abs x)
valued t n x h = record { at = h.at; entry = h.entry; before = h.before; there = h.there; is = variable_of h.entry x h.is }

pub valued_neg : (t : List Assigned) (n : ℕ) (x : ℤ) → Holds t n (neg_ℤ x) → HasValue t n (unsigned_abs x)
valued_neg t n x h = record { at = h.at; entry = h.entry; before = h.before; there = h.there; is = variable_of h.entry (neg_ℤ x) h.is ∙ abs_neg x }

pub value_later : (t : List Assigned) (n m v : ℕ) → n ≤ m → HasValue t n v → HasValue t m v
value_later t n m v le h = record { at = h.at; entry = h.entry; before = omega (arith, h.before); there = h.there; is = h.is }

-- the same values on a longer trail, and on its front
pub holds_grown : (t us : List Assigned) (n : ℕ) (x : ℤ) → Holds t n x → Holds (t ++ us) n x
holds_grown t us n x h = record { at = h.at; entry = h.entry; before = h.before; there = get_append t us h.at h.entry h.there; is = h.is }

pub value_grown : (t us : List Assigned) (n v : ℕ) → HasValue t n v → HasValue (t ++ us) n v
value_grown t us n v h = record { at = h.at; entry = h.entry; before = h.before; there = get_append t us h.at h.entry h.there; is = h.is }

pub holds_cut : (t : List Assigned) (q n : ℕ) (x : ℤ) → n ≤ q → Holds t n x → Holds (take q t) n x
holds_cut t q n x le h = record { at = h.at; entry = h.entry; before = h.before; there = get_taken q t h.at h.entry (omega (arith, h.before)) h.there; is = h.is }

pub value_cut : (t : List Assigned) (q n v : ℕ) → n ≤ q → HasValue t n v → HasValue (take q t) n v
value_cut t q n v le h = record { at = h.at; entry = h.entry; before = h.before; there = get_taken q t h.at h.entry (omega (arith, h.before)) h.there; is = h.is }

pub holds_uncut : (t : List Assigned) (q n : ℕ) (x : ℤ) → Holds (take q t) n x → Holds t n x
holds_uncut t q n x h = record { at = h.at; entry = h.entry; before = h.before; there = (get_take q t h.at h.entry h.there).1; is = h.is }

pub value_uncut : (t : List Assigned) (q n v : ℕ) → HasValue (take q t) n v → HasValue t n v
value_uncut t q n v h = record { at = h.at; entry = h.entry; before = h.before; there = (get_take q t h.at h.entry h.there).1; is = h.is }

pub holds_ungrown : (t us : List Assigned) (n : ℕ) (x : ℤ) → n ≤ length t → Holds (t ++ us) n x → Holds t n x
holds_ungrown t us n x le h = record { at = h.at; entry = h.entry; before = h.before; there = get_front t us h.at h.entry (omega (arith, h.before)) h.there; is = h.is }

pub value_ungrown : (t us : List Assigned) (n v : ℕ) → n ≤ length t → HasValue (t ++ us) n v → HasValue t n v
value_ungrown t us n v le h = record { at = h.at; entry = h.entry; before = h.before; there = get_front t us h.at h.entry (omega (arith, h.before)) h.there; is = h.is }
