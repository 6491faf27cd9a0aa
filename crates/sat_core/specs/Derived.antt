-- What resolution derives from a conflict.
use Rattle.std.specs.Prelude.{◌≡◌, ◌≢◌, ℕ, ◌<◌, ◌≤◌, ◌^◌, ◌⊎◌, Bool, true, cond, Some, None, List, [], ◌∷◌, length, slice_get, ℤ, pos, neg_ℤ, unsigned_abs}
use Rattle.std.specs.List.{Contains}
use Rattle.clauses.specs.Clause.{Rises}
use Rattle.clauses.specs.Tseitin.{flag_at}
use Rattle.clauses.specs.declared.log.Resolve.{Resolve}
use Rattle.clauses.specs.Log.{Derives}
use Rattle.sat_core.specs.declared.trail.Assigned.{Assigned}
use Rattle.sat_core.specs.Trail.{number, HasValue, Holds}

-- all numbers of the clause at an index are false
pub record IsConflict (clauses : List (List ℤ)) (t : List Assigned) (at : ℕ) : Type 0 where
  pub clause : List ℤ
  pub named : slice_get clauses at ≡ Some clause
  pub fails : (y : ℤ) → Contains clause y → Holds t (length t) (neg_ℤ y)

-- the opposites of the values of flagged variables
abbrev pub running : List Bool → List Assigned → List ℤ
running seen [] = []
running seen (e ∷ es) = cond (flag_at seen e.variable) (neg_ℤ (number e) ∷ running seen es) (running seen es)

-- the flags of a clause's variables are set, and others stay
pub record AreMarked (seen : List Bool) (c : List ℤ) (marks : List Bool) : Type 0 where
  pub stays : (v : ℕ) → flag_at seen v ≡ true → flag_at marks v ≡ true
  pub set : (x : ℤ) → Contains c x → flag_at marks (unsigned_abs x) ≡ true
  pub from : (v : ℕ) → flag_at marks v ≡ true → (flag_at seen v ≡ true) ⊎ ((x : ℤ) × Contains c x × (unsigned_abs x ≡ v))

-- the same, for the first n numbers of the clause
pub record AreMarkedUpTo (seen : List Bool) (c : List ℤ) (n : ℕ) (marks : List Bool) : Type 0 where
  pub stays : (v : ℕ) → flag_at seen v ≡ true → flag_at marks v ≡ true
  pub set : (k : ℕ) (x : ℤ) → k < n → slice_get c k ≡ Some x → flag_at marks (unsigned_abs x) ≡ true
  pub from : (v : ℕ) → flag_at marks v ≡ true → (flag_at seen v ≡ true) ⊎ ((x : ℤ) × Contains c x × (unsigned_abs x ≡ v))

-- no variable is resolved on twice
abbrev pub AreOnce : List Resolve → Type 0
AreOnce steps = (i j : ℕ) (s r : Resolve) → i < j → slice_get steps i ≡ Some s → slice_get steps j ≡ Some r → s.on ≢ r.on

-- the steps lead from a clause to the flagged one; the values behind the first n are resolved away but for decisions
pub record IsAnalyzed (clauses : List (List ℤ)) (size : ℕ) (t : List Assigned) (start n : ℕ) (steps : List Resolve) (seen : List Bool) : Type 0 where
  pub first : List ℤ
  pub named : slice_get clauses start ≡ Some first
  pub many : length seen ≡ size
  pub derives : Derives clauses first steps (running seen t)
  pub covered : (v : ℕ) → flag_at seen v ≡ true → HasValue t (length t) v
  pub small : (v : ℕ) → flag_at seen v ≡ true → v < 2 ^ 31
  pub decided : (m : ℕ) (e : Assigned) → n ≤ m → slice_get t m ≡ Some e → flag_at seen e.variable ≡ true → e.reason ≡ None
  pub behind : (k : ℕ) (s : Resolve) → slice_get steps k ≡ Some s → (m : ℕ) × (e : Assigned) × (n ≤ m) × (slice_get t m ≡ Some e) × (e.variable ≡ s.on)
  pub once : AreOnce steps

-- the flagged variables as numbers
pub record AreFlagged (seen : List Bool) (numbers : List ℤ) (n : ℕ) : Type 0 where
  pub rising : Rises numbers
  pub onto : (v : ℕ) → v < n → flag_at seen v ≡ true → Contains numbers (pos v)
  pub from : (y : ℤ) → Contains numbers y → (v : ℕ) × (v < n) × (flag_at seen v ≡ true) × (y ≡ pos v)

-- two numbers of the clause, the less of which is above
pub record AreTwo (c : List ℤ) (above : ℕ) : Type 0 where
  pub other : ℕ
  pub less : above < other
  pub held : Contains c (pos above)
  pub held_other : Contains c (pos other)

-- decisions among the first n values are on variables up to this one
pub record AreBelow (t : List Assigned) (n above : ℕ) : Type 0 where
  pub within : n ≤ length t
  pub each : (m : ℕ) (e : Assigned) → m < n → slice_get t m ≡ Some e → e.reason ≡ None → e.variable ≤ above

-- each number of the clause is the opposite of a decision
pub record IsOfDecisions (t : List Assigned) (c : List ℤ) : Type 0 where
  pub each : (y : ℤ) → Contains c y → (m : ℕ) × (e : Assigned) × (slice_get t m ≡ Some e) × (e.reason ≡ None) × (y ≡ pos e.variable)
