-- Values of all variables under which nothing is left are a model.
use Rattle.std.proofs.Common.{◌≡◌, ℕ, zero, suc, ◌+◌, ◌-◌, ◌<◌, ◌⊎◌, inl, inr, Bool, true, false, not, Option, Some, List, [], ◌∷◌, ◌++◌, length, ℤ, pos, negsuc, neg_ℤ, refl, sym, ◌∙◌, ap, subst, arith}
use Rattle.std.specs.Prelude.{slice_get, slice_index_or, unsigned_abs}
use mathlib.Core.Bool.{beq}
use lib.Signed.{lt_z}
use Rattle.std.specs.List.{Contains}
use Rattle.std.proofs.lemmas.Bool.{or_left, or_right, and_from, lt-ltb}
use Rattle.std.proofs.lemmas.Option.{get_or_from_slice_get, slice_get_within}
use Rattle.std.proofs.lemmas.List.Elements.{Contains-append_left}
use Rattle.clauses.specs.Assignment.{number_holds, clause_holds, all_hold}
use Rattle.clauses.specs.Tseitin.{number_of}
use Rattle.sat_core.specs.declared.trail.Assigned.{Assigned}
use Rattle.sat_core.specs.Trail.{number, Holds, HasValue}
use Rattle.sat_core.specs.Values.{IsState}
use Rattle.sat_core.specs.Found.{IsComplete}
use Rattle.sat_core.specs.Answers.{value_at, IsModel, AreValues, AreFirstValues}
use Rattle.sat_newness.proofs.Lists.{cons_here, cons_there, cons_cases}

either_is : (y : ℤ) (b : Bool) → (number_of (not b) (unsigned_abs y) ≡ y) ⊎ (number_of (not b) (unsigned_abs y) ≡ neg_ℤ y)
either_is (pos n) true = inl refl
either_is (pos n) false = inr refl
either_is (negsuc n) true = inr refl
either_is (negsuc n) false = inl refl

either_holds : (t : List Assigned) (n : ℕ) (y : ℤ) → HasValue t n (unsigned_abs y) → Holds t n y ⊎ Holds t n (neg_ℤ y)
either_holds t n y h =
    let e : number h.entry ≡ number_of (not h.entry.value) (unsigned_abs y) = ap (number_of (not h.entry.value)) h.is in
    elim (either_is y h.entry.value) as (λ _. Holds t n y ⊎ Holds t n (neg_ℤ y)) [
      | inl q ↦ inl (record { at = h.at; entry = h.entry; before = h.before; there = h.there; is = e ∙ q })
      | inr q ↦ inr (record { at = h.at; entry = h.entry; before = h.before; there = h.there; is = e ∙ q })
    ]

some_true : (t : List Assigned) (n : ℕ) (c : List ℤ) → ((y : ℤ) → Contains c y → Holds t n y ⊎ Holds t n (neg_ℤ y)) → (((y : ℤ) → Contains c y → Holds t n (neg_ℤ y)) → ⊥) → (x : ℤ) × Contains c x × Holds t n x
some_true t n [] h k = absurd (k (λ y i. absurd (omega (arith, i.1))))
some_true t n (x ∷ xs) h k = elim (h x (cons_here x xs)) as (λ _. (z : ℤ) × Contains (x ∷ xs) z × Holds t n z) [
  | inl a ↦ (x, cons_here x xs, a)
  | inr a ↦
      let r = some_true t n xs (λ y i. h y (cons_there x y xs i)) (λ p. k (λ y i. elim (cons_cases x y xs i) as (λ _. Holds t n (neg_ℤ y)) [ inl e ↦ subst (λ (z : ℤ). Holds t n (neg_ℤ z)) e a | inr j ↦ p y j ])) in
      (r.0, cons_there x r.0 xs r.1, r.2)
]

true_of : (f : ℕ → Bool) (v : ℕ) (b : Bool) → 0 < v → f v ≡ b → number_holds f (number_of (not b) v) ≡ true
true_of f zero b real e = absurd (omega arith)
true_of f (suc n) true real e = e
true_of f (suc n) false real e = ap not (ap f (let q : n + 1 ≡ suc n = omega arith in q) ∙ e)

holds_true : (clauses : List (List ℤ)) (values : List (Option Bool)) (t : List Assigned) → IsState clauses values t → (list : List Bool) → AreValues values list → (n : ℕ) (x : ℤ) → Holds t n x → number_holds (value_at list) x ≡ true
holds_true clauses values t s list a n x h =
    let real : 0 < h.entry.variable = (s.trail.each h.at h.entry h.there).real in
    let back : h.entry.variable - 1 + 1 ≡ h.entry.variable = omega arith in
    let at : slice_get list (h.entry.variable - 1) ≡ Some h.entry.value = a.each (h.entry.variable - 1) h.entry.value (ap (slice_get values) back ∙ s.told.onto h.at h.entry h.there) in
    ap (number_holds (value_at list)) (sym h.is) ∙ true_of (value_at list) h.entry.variable h.entry.value real (get_or_from_slice_get list (h.entry.variable - 1) h.entry.value false at)

pub clause_true : (f : ℕ → Bool) (c : List ℤ) (x : ℤ) → Contains c x → number_holds f x ≡ true → clause_holds f c ≡ true
clause_true f [] x i h = absurd (omega (arith, i.1))
clause_true f (y ∷ ys) x i h = elim (cons_cases y x ys i) as (λ _. clause_holds f (y ∷ ys) ≡ true) [
  | inl e ↦ or_left (number_holds f y) (clause_holds f ys) (ap (number_holds f) e ∙ h)
  | inr j ↦ or_right (number_holds f y) (clause_holds f ys) (clause_true f ys x j h)
]

pub all_true : (f : ℕ → Bool) (cs : List (List ℤ)) → ((c : List ℤ) → Contains cs c → clause_holds f c ≡ true) → all_hold f cs ≡ true
unfolding all_hold
all_true f [] h = refl
all_true f (c ∷ cs) h = and_from (clause_holds f c) (all_hold f cs) (h c (cons_here c cs)) (all_true f cs (λ d i. h d (cons_there c d cs i)))

pub model_of : (given more : List (List ℤ)) (variables : ℕ) (values : List (Option Bool)) (t : List Assigned) → IsState (given ++ more) values t → IsComplete (given ++ more) (length values) t → length values ≡ variables + 1 → (list : List Bool) → AreValues values list → IsModel variables given list
model_of given more variables values t s k sized list a = record {
  many = omega (arith, a.many);
  holds = all_true (value_at list) given (λ c i.
      let j = Contains-append_left given more c i in
      let r = some_true t (length t) c (λ y q. let o = s.numbers.each c y j q in either_holds t (length t) y (k.each (unsigned_abs y) o.real o.within)) (k.settled.each c j).stands in
      clause_true (value_at list) c r.0 r.1 (holds_true (given ++ more) values t s list a (length t) r.0 r.2));
}

pub values_of_first : (values : List (Option Bool)) (n : ℕ) (list : List Bool) → length values ≡ n → AreFirstValues values n list → AreValues values list
values_of_first values n list e a = record { many = a.many ∙ sym e; each = λ v b q. a.each v b (omega (arith, slice_get_within values (v + 1) (Some b) q)) q }

-- a number is true where the value at its place is that of its sign
pub place_true : (values : List Bool) (x : ℤ) → 0 < unsigned_abs x → beq (slice_index_or values (unsigned_abs x - 1) false) (lt_z (pos 0) x) ≡ true → number_holds (value_at values) x ≡ true
place_true values (pos zero) real h = absurd (omega arith)
place_true values (pos (suc n)) real h = beq_true _ (subst (λ (b : Bool). beq (slice_index_or values (suc n - 1) false) b ≡ true) (lt-ltb 0 (suc n) (omega arith)) h)
  where
    beq_true : (b : Bool) → beq b true ≡ true → b ≡ true
    beq_true true e = refl
    beq_true false e = e
place_true values (negsuc n) real h =
    let q : n + 1 ≡ suc n = omega arith in
    ap not (ap (value_at values) q ∙ beq_false _ h)
  where
    beq_false : (b : Bool) → beq b false ≡ true → b ≡ false
    beq_false true e = sym e
    beq_false false e = refl
