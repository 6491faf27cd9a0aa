-- What unit propagation comes to stays within a table that settles the clauses.
use Rattle.std.proofs.Common.{◌≡◌, ◌≢◌, ℕ, zero, suc, ◌+◌, ◌≤◌, ◌⊎◌, inl, inr, Bool, true, false, not, List, ℤ, pos, neg_ℤ, refl, sym, ◌∙◌, subst, arith}
use Rattle.std.specs.Ordering.{int_eq}
use Rattle.std.specs.List.{Contains}
use Rattle.std.proofs.lemmas.Bool.Decides.{Decides-int_eq}
use Rattle.clauses.specs.Tseitin.{number_of, input_numbers}
use Rattle.clauses.specs.Units.{Units, given_one, forced, Fails}
use Rattle.clauses.specs.Spent.{IsNew, Decides}
use Rattle.sat_newness.specs.Weights.{weight, Makes, IsTable, IsSettled, AreSettled, IsLast, HasAllTo, HasOpen}
use Rattle.sat_newness.proofs.Others.{neg_neg, Decides-cases, others, others_from, others_at, input_at}

-- a number weighs nothing where its opposite is true
none : (table : List ℕ) (x : ℤ) → IsTable table → Makes table (neg_ℤ x) → weight table x ≡ 0
none table x t m = omega (arith, t.both x, m.enough)

made : (table : List ℕ) (x y : ℤ) → y ≡ x → 2 ≤ weight table y → Makes table x
made table x y e h = subst (λ (z : ℤ). Makes table z) e (record { enough = h })

-- the last number of a settled clause is true where all others are false
closed_at : (table : List ℕ) (c : List ℤ) (x : ℤ) → IsTable table → IsSettled table c → ((y : ℤ) → Contains c y → y ≢ x → Makes table (neg_ℤ y)) → Makes table x
closed_at table c x t (inl s) f = elim (Decides-cases (int_eq s.number x) (s.number ≡ x) (Decides-int_eq s.number x)) as (λ _. Makes table x) [
  | inl e ↦ made table x s.number e s.enough
  | inr ne ↦ absurd (omega (arith, none table s.number t (f s.number s.held ne), s.enough))
]
closed_at table c x t (inr s) f = elim (Decides-cases (int_eq s.one x) (s.one ≡ x) (Decides-int_eq s.one x)) as (λ _. Makes table x) [
  | inl e ↦ made table x s.one e (omega (arith, none table s.other t (f s.other s.held_other (λ q. s.apart (e ∙ sym q))), s.enough))
  | inr ne ↦ elim (Decides-cases (int_eq s.other x) (s.other ≡ x) (Decides-int_eq s.other x)) as (λ _. Makes table x) [
    | inl e ↦ made table x s.other e (omega (arith, none table s.one t (f s.one s.held ne), s.enough))
    | inr n ↦ absurd (omega (arith, none table s.one t (f s.one s.held ne), none table s.other t (f s.other s.held_other n), s.enough))
  ]
]

pub units_made : (clauses : List (List ℤ)) (start : List ℤ) (table : List ℕ) → IsTable table → AreSettled table clauses → ((x : ℤ) → Contains start x → Makes table x) → (x : ℤ) → Units clauses start x → Makes table x
units_made clauses start table t s g _ (given_one x i) = g x i
units_made clauses start table t s g _ (forced c x i j f) = closed_at table c x t (s.each c i) (λ y k ne. units_made clauses start table t s g (neg_ℤ y) (f y k ne))

-- a settled clause has a number that isn't false
no_failure : (table : List ℕ) (c : List ℤ) → IsTable table → IsSettled table c → ((y : ℤ) → Contains c y → Makes table (neg_ℤ y)) → ⊥
no_failure table c t (inl s) f = omega (arith, none table s.number t (f s.number s.held), s.enough)
no_failure table c t (inr s) f = omega (arith, none table s.one t (f s.one s.held), none table s.other t (f s.other s.held_other), s.enough)

pub never_fails : (clauses : List (List ℤ)) (start : List ℤ) (table : List ℕ) → IsTable table → AreSettled table clauses → ((x : ℤ) → Contains start x → Makes table x) → Fails clauses start → ⊥
never_fails clauses start table t s g (c, i, f) = no_failure table c t (s.each c i) (λ y k. units_made clauses start table t s g (neg_ℤ y) (f y k))

-- a clause is new by its last number
pub new_by : (clauses : List (List ℤ)) (c : List ℤ) (x : ℤ) (table : List ℕ) → IsTable table → AreSettled table clauses → IsLast table c x → IsNew clauses c
new_by clauses c x table t s l =
    let all : (y : ℤ) → Contains (others x c) y → Makes table y = λ y i. let h = others_from x c y i in subst (λ (z : ℤ). Makes table z) (neg_neg y) (l.others (neg_ℤ y) h.0 h.1) in
    record {
      number = x;
      held = l.held;
      others = others x c;
      opposite = λ y. (others_from x c y, λ h. others_at x c y h.0 h.1);
      stands = never_fails clauses (others x c) table t s all;
      unforced = λ u. omega (arith, (units_made clauses (others x c) table t s all x u).enough, l.not_true);
    }

-- ---- what the first variables don't decide

-- whether a number weighs 2
abbrev is_true : ℕ → Bool
is_true zero = false
is_true (suc zero) = false
is_true (suc (suc n)) = true

true_of : (n : ℕ) → is_true n ≡ true → 2 ≤ n
true_of zero e = absurd cc
true_of (suc zero) e = absurd cc
true_of (suc (suc n)) e = omega arith

of_true : (n : ℕ) → 2 ≤ n → is_true n ≡ true
of_true zero h = absurd (omega arith)
of_true (suc zero) h = absurd (omega arith)
of_true (suc (suc n)) h = refl

-- the values that a table gives: that of variable n + 1 at n
abbrev value_in : List ℕ → ℕ → Bool
value_in table n = is_true (weight table (pos (n + 1)))

made_number : (table : List ℕ) (b : Bool) (v : ℕ) → is_true (weight table (pos v)) ≡ b → Makes table (pos v) ⊎ Makes table (neg_ℤ (pos v)) → Makes table (number_of (not b) v)
made_number table true v e h = record { enough = true_of (weight table (pos v)) e }
made_number table false v e (inl m) = absurd (let q = of_true (weight table (pos v)) m.enough in cc)
made_number table false v e (inr m) = m

inputs_made : (table : List ℕ) (k j : ℕ) → HasAllTo table k → j ≤ k → (x : ℤ) → Contains (input_numbers (value_in table) j) x → Makes table x
inputs_made table k j h le x i =
    let a = input_at (value_in table) j x i in
    subst (λ (z : ℤ). Makes table z) (sym a.2) (made_number table (value_in table a.0) (a.0 + 1) refl (h (a.0 + 1) (omega arith) (omega (arith, a.1))))

-- settled clauses aren't decided by variables that have a value, where one has none
pub undecided : (clauses : List (List ℤ)) (table : List ℕ) (variables k : ℕ) → IsTable table → AreSettled table clauses → HasAllTo table k → HasOpen table variables → (j : ℕ) → j ≤ k → Decides j variables clauses → ⊥
undecided clauses table variables k t s h o j le d =
    let v : ℕ → Bool = value_in table in
    let all : (x : ℤ) → Contains (input_numbers v j) x → Makes table x = inputs_made table k j h le in
    elim (d v) as (λ _. ⊥) [
      | inl f ↦ never_fails clauses (input_numbers v j) table t s all f
      | inr a ↦ elim (a o.variable o.real o.within) as (λ _. ⊥) [
        | inl u ↦ omega (arith, (units_made clauses (input_numbers v j) table t s all (pos o.variable) u).enough, o.not_true)
        | inr u ↦ omega (arith, (units_made clauses (input_numbers v j) table t s all (neg_ℤ (pos o.variable)) u).enough, o.not_false)
      ]
    ]
