-- What the solver answers.
use Rattle.std.specs.Prelude.{◌≡◌, ◌≢◌, ℕ, ◌+◌, ◌-◌, ◌<◌, ◌≤◌, Bool, true, false, Option, Some, List, [], ◌∷◌, ◌++◌, length, slice_get, slice_index_or, ℤ}
use Rattle.std.specs.List.{Contains}
use Rattle.clauses.specs.Assignment.{all_hold}
use Rattle.clauses.specs.declared.log.Chain.{Chain}
use Rattle.clauses.specs.Log.{given, IsAccepted, Refutes}
use Rattle.clauses.specs.Spent.{AreNew, IsSpent, Decides}
use Rattle.sat_core.specs.declared.solver.Answer.{Answer}
use Rattle.sat_core.specs.declared.solver.Answer.TheVariants.{Model, Refuted, Spent}
use Rattle.sat_newness.specs.Clauses.{clauses_of}
use Rattle.sat_core.specs.declared.trail.Assigned.{Assigned}
use Rattle.sat_core.specs.Values.{IsState}
use Rattle.sat_core.specs.Derived.{AreOnce}
use Rattle.sat_core.specs.Learned.{Blocks, IsLearned}

-- the assignment of a list of values: variable n + 1 has the one at n
abbrev pub value_at : List Bool → ℕ → Bool
value_at values n = slice_index_or values (n - 1) false

-- a value for each variable, which together satisfy every clause
pub record IsModel (variables : ℕ) (clauses : List (List ℤ)) (values : List Bool) : Type 0 where
  pub many : length values ≡ variables
  pub holds : all_hold (value_at values) clauses ≡ true

-- no chain resolves on a variable twice
abbrev pub AreAllOnce : List Chain → Type 0
AreAllOnce chains = (chain : Chain) → Contains chains chain → AreOnce chain.steps

-- an accepted refutation of few chains
pub record IsRefuted (clauses : List (List ℤ)) (budget : ℕ) (chains : List Chain) : Type 0 where
  pub refutes : Refutes clauses chains
  pub few : length chains ≤ budget
  pub once : AreAllOnce chains

abbrev pub IsAnswer : ℕ → List (List ℤ) → ℕ → Answer → Type 0
IsAnswer variables clauses budget (Model values) = IsModel variables clauses values
IsAnswer variables clauses budget (Refuted log) = IsRefuted clauses budget log.chains
IsAnswer variables clauses budget (Spent log) = IsSpent variables clauses log.chains budget

-- ---- on the way

-- the values of all variables in order
pub record AreValues (values : List (Option Bool)) (list : List Bool) : Type 0 where
  pub many : length list + 1 ≡ length values
  pub each : (v : ℕ) (b : Bool) → slice_get values (v + 1) ≡ Some (Some b) → slice_get list v ≡ Some b

-- the values of the first variables, on the way
pub record AreFirstValues (values : List (Option Bool)) (n : ℕ) (list : List Bool) : Type 0 where
  pub many : length list + 1 ≡ n
  pub each : (v : ℕ) (b : Bool) → v + 1 < n → slice_get values (v + 1) ≡ Some (Some b) → slice_get list v ≡ Some b

-- one chain more, which gives the empty clause or a new one
pub record HasLearned (clauses : List (List ℤ)) (size : ℕ) (before after : List Chain) (empty : Bool) : Type 0 where
  pub chain : Chain
  pub more : after ≡ before ++ chain ∷ []
  pub learned : IsLearned clauses size (clauses_of clauses before) chain
  pub ends : empty ≡ true → chain.gives ≡ []
  pub goes_on : empty ≡ false → chain.gives ≢ []

-- no list of values comes twice
abbrev pub AreApart : List (List Bool) → Type 0
AreApart [] = Unit {0}
AreApart (x ∷ xs) = (Contains xs x → ⊥) × AreApart xs

-- the log so far: each clause has values that it is the first to block
pub record IsLog (clauses : List (List ℤ)) (size : ℕ) (chains : List Chain) : Type 0 where
  pub accepted : IsAccepted clauses chains
  pub fresh : AreNew clauses (given chains)
  pub once : AreAllOnce chains
  pub blocked : List (List Bool)
  pub many : length blocked ≡ length chains
  pub apart : AreApart blocked
  pub by : (values : List Bool) → Contains blocked values → (c : List ℤ) × Contains (clauses_of clauses chains) c × Blocks c values
  pub few : (k variables : ℕ) → size ≡ variables + 1 → Decides k variables clauses → (values : List Bool) → Contains blocked values → length values < k

-- the state before a conflict, and the log of those before
pub record IsSolving (clauses : List (List ℤ)) (variables counter : ℕ) (chains : List Chain) (values : List (Option Bool)) (t : List Assigned) : Type 0 where
  pub state : IsState (clauses_of clauses chains) values t
  pub sized : length values ≡ variables + 1
  pub log : IsLog clauses (variables + 1) chains
  pub counted : length chains ≡ counter
