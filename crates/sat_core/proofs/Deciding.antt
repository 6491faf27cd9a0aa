-- All variables decide clauses: their values are given.
use Rattle.std.proofs.Common.{◌≡◌, ℕ, zero, suc, ◌+◌, ◌<◌, ◌≤◌, ◌⊎◌, inl, inr, Bool, true, false, not, List, [], ◌∷◌, refl, subst, arith}
use Rattle.std.specs.Prelude.{ℤ, pos, neg_ℤ}
use Rattle.std.specs.List.{Contains}
use Rattle.std.proofs.lemmas.Bool.{cases_lt}
use Rattle.std.proofs.lemmas.List.Elements.{Contains-append_left, Contains-push}
use Rattle.clauses.specs.Tseitin.{input_numbers, number_of}
use Rattle.clauses.specs.Units.{Units, given_one}
use Rattle.clauses.specs.Spent.{Decides}

-- the value of a variable is one of the first k
value_given : (v : ℕ → Bool) (k n : ℕ) → n < k → Contains (input_numbers v k) (number_of (not (v n)) (n + 1))
unfolding input_numbers
value_given v zero n less = absurd (omega arith)
value_given v (suc k) n less = elim (cases_lt n k) as (λ _. Contains (input_numbers v (suc k)) (number_of (not (v n)) (n + 1))) [
  | inl l ↦ Contains-append_left (input_numbers v k) (number_of (not (v k)) (k + 1) ∷ []) (number_of (not (v n)) (n + 1)) (value_given v k n l)
  | inr g ↦ let q : k ≡ n = omega arith in subst (λ (j : ℕ). Contains (input_numbers v (suc k)) (number_of (not (v j)) (j + 1))) q (Contains-push (input_numbers v k) (number_of (not (v k)) (k + 1)))
]

found : (v : ℕ → Bool) (k n : ℕ) (clauses : List (List ℤ)) → n < k → Units clauses (input_numbers v k) (pos (n + 1)) ⊎ Units clauses (input_numbers v k) (neg_ℤ (pos (n + 1)))
found v k n clauses less = by (v n) refl
  where
    by : (b : Bool) → v n ≡ b → Units clauses (input_numbers v k) (pos (n + 1)) ⊎ Units clauses (input_numbers v k) (neg_ℤ (pos (n + 1)))
    by true e = inl (given_one _ (subst (λ (b : Bool). Contains (input_numbers v k) (number_of (not b) (n + 1))) e (value_given v k n less)))
    by false e = inr (given_one _ (subst (λ (b : Bool). Contains (input_numbers v k) (number_of (not b) (n + 1))) e (value_given v k n less)))

pub all_decide : (n : ℕ) (clauses : List (List ℤ)) → Decides n n clauses
all_decide n clauses v = inr each
  where
    each : (m : ℕ) → 0 < m → m ≤ n → Units clauses (input_numbers v n) (pos m) ⊎ Units clauses (input_numbers v n) (neg_ℤ (pos m))
    each zero some le = absurd (omega arith)
    each (suc m) some le =
        let e : m + 1 ≡ suc m = omega arith in
        subst (λ (k : ℕ). Units clauses (input_numbers v n) (pos k) ⊎ Units clauses (input_numbers v n) (neg_ℤ (pos k))) e (found v n m clauses (omega arith))
