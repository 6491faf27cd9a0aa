-- When the log of an undecided question earns its budget.
use Rattle.std.specs.Prelude.{◌≡◌, ◌≢◌, ℕ, ◌+◌, ◌-◌, ◌^◌, ◌<◌, ◌≤◌, ◌↔◌, ◌⊎◌, Bool, List, [], ◌∷◌, ◌++◌, length, ℤ, pos, neg_ℤ}
use Rattle.std.specs.List.{Contains}
use Rattle.clauses.specs.declared.log.Chain.{Chain}
use Rattle.clauses.specs.Tseitin.{input_numbers}
use Rattle.clauses.specs.Units.{Units, Fails}
use Rattle.clauses.specs.Log.{IsAccepted, given}

-- a clause is new where the opposites of its other numbers neither fail nor force one number of it
pub record IsNew (clauses : List (List ℤ)) (c : List ℤ) : Type 0 where
  pub number : ℤ
  pub held : Contains c number
  pub others : List ℤ
  pub opposite : (y : ℤ) → Contains others y ↔ (Contains c (neg_ℤ y) × (neg_ℤ y ≢ number))
  pub stands : Fails clauses others → ⊥
  pub unforced : Units clauses others number → ⊥

-- each clause is not empty, and new to the clauses and those before it
abbrev pub AreNew : List (List ℤ) → List (List ℤ) → Type 0
AreNew clauses [] = Unit {0}
AreNew clauses (c ∷ cs) = (c ≢ []) × IsNew clauses c × AreNew (clauses ++ c ∷ []) cs

-- unit propagation from any values of the first k variables fails or finds the value of each variable: variable n + 1 has value v n
abbrev pub Decides : ℕ → ℕ → List (List ℤ) → Type 0
Decides k variables clauses = (v : ℕ → Bool) → Fails clauses (input_numbers v k) ⊎ ((n : ℕ) → 0 < n → n ≤ variables → Units clauses (input_numbers v k) (pos n) ⊎ Units clauses (input_numbers v k) (neg_ℤ (pos n)))

-- a log of exactly so many chains, and no more than the variables that decide the clauses allow
pub record IsSpent (variables : ℕ) (clauses : List (List ℤ)) (chains : List Chain) (budget : ℕ) : Type 0 where
  pub accepted : IsAccepted clauses chains
  pub exactly : length chains ≡ budget
  pub fresh : AreNew clauses (given chains)
  pub earned : (k : ℕ) → Decides k variables clauses → budget ≤ 2 ^ (k + 1) - 2
