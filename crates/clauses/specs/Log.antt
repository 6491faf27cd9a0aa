-- Resolution, and logs of it.
use Rattle.std.specs.Prelude.{◌≡◌, ◌≢◌, ℕ, ◌-◌, ◌<◌, ◌↔◌, ◌⊎◌, Some, List, [], ◌∷◌, ◌++◌, length, map, slice_get, ℤ, neg_ℤ, unsigned_abs}
use Rattle.std.specs.List.{Contains}
use Rattle.clauses.specs.declared.log.Resolve.{Resolve}
use Rattle.clauses.specs.declared.log.Chain.{Chain}

-- a holds the number, b its opposite, and the opposite of no other number of a
pub record Clash (a b : List ℤ) (number : ℤ) : Type 0 where
  pub left : Contains a number
  pub right : Contains b (neg_ℤ number)
  pub only : (y : ℤ) → Contains a y → Contains b (neg_ℤ y) → y ≢ number → ⊥

-- r holds what a and b hold, which clash on exactly this variable, but not the two numbers that clash
pub record Resolvent (a b : List ℤ) (on : ℕ) (r : List ℤ) : Type 0 where
  pub number : ℤ
  pub variable : unsigned_abs number ≡ on
  pub clash : Clash a b number
  pub members : (y : ℤ) → Contains r y ↔ ((Contains a y × (y ≢ number)) ⊎ (Contains b y × (y ≢ neg_ℤ number)))

-- the same numbers, in whatever order
abbrev pub AreSame : List ℤ → List ℤ → Type 0
AreSame a b = (y : ℤ) → Contains a y ↔ Contains b y

-- c is clause n, counted from 1
abbrev pub IsClauseAt : List (List ℤ) → ℕ → List ℤ → Type 0
IsClauseAt clauses n c = (0 < n) × (slice_get clauses (n - 1) ≡ Some c)

-- the steps, each with one of the clauses, lead from the first clause to the last one
abbrev pub Derives : List (List ℤ) → List ℤ → List Resolve → List ℤ → Type 0
Derives clauses first [] last = AreSame first last
Derives clauses first (s ∷ ss) last = (c : List ℤ) × (r : List ℤ) × IsClauseAt clauses s.with c × Resolvent first c s.on r × Derives clauses r ss last

-- a chain derives from earlier clauses the clause that it gives
abbrev pub IsRight : List (List ℤ) → Chain → Type 0
IsRight clauses chain = (first : List ℤ) × IsClauseAt clauses chain.start first × Derives clauses first chain.steps chain.gives

-- each chain is right, over the clauses and those that the chains before it give
abbrev pub IsAccepted : List (List ℤ) → List Chain → Type 0
IsAccepted clauses [] = Unit {0}
IsAccepted clauses (chain ∷ chains) = IsRight clauses chain × IsAccepted (clauses ++ chain.gives ∷ []) chains

-- the clauses that chains give
abbrev pub given : List Chain → List (List ℤ)
given chains = map (λ chain. chain.gives) chains

-- the last clause given is empty
abbrev pub EndsEmpty : List Chain → Type 0
EndsEmpty chains = slice_get (given chains) (length chains - 1) ≡ Some []

-- right chains down to the empty clause
pub record Refutes (clauses : List (List ℤ)) (chains : List Chain) : Type 0 where
  pub accepted : IsAccepted clauses chains
  pub ends : EndsEmpty chains
