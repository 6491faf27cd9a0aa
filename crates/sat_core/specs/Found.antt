-- What a look at clauses finds.
use Rattle.std.specs.Prelude.{◌≡◌, ◌≢◌, ℕ, ◌<◌, ◌≤◌, ◌⊎◌, Bool, true, false, Option, Some, None, List, length, slice_get, ℤ, neg_ℤ, unsigned_abs}
use Rattle.std.specs.List.{Contains}
use Rattle.sat_core.specs.declared.trail.Assigned.{Assigned}
use Rattle.sat_core.specs.declared.propagate.ClauseState.{ClauseState}
use Rattle.sat_core.specs.declared.propagate.ClauseState.TheVariants.{Conflict as AllFalse, Unit as OneOpen, Other}
use Rattle.sat_core.specs.declared.propagate.Scanned.{Scanned}
use Rattle.sat_core.specs.declared.propagate.Scanned.TheVariants.{Conflict, Units, Quiet}
use Rattle.sat_core.specs.Trail.{Holds, HasValue, IsSettledBy, Settled}
use Rattle.sat_core.specs.Values.{IsState, open_variables}
use Rattle.sat_core.specs.Derived.{IsConflict}

-- all numbers but x are false, and x is open
pub record IsUnit (t : List Assigned) (c : List ℤ) (x : ℤ) : Type 0 where
  pub held : Contains c x
  pub unset : HasValue t (length t) (unsigned_abs x) → ⊥
  pub others : (y : ℤ) → Contains c y → y ≢ x → Holds t (length t) (neg_ℤ y)

-- a number is true
pub record IsTrueBy (t : List Assigned) (c : List ℤ) : Type 0 where
  pub number : ℤ
  pub held : Contains c number
  pub holds : Holds t (length t) number

-- two numbers are open
pub record HasTwoOpen (t : List Assigned) (c : List ℤ) : Type 0 where
  pub one : ℤ
  pub other : ℤ
  pub apart : one ≢ other
  pub held : Contains c one
  pub held_other : Contains c other
  pub unset : HasValue t (length t) (unsigned_abs one) → ⊥
  pub unset_other : HasValue t (length t) (unsigned_abs other) → ⊥

abbrev pub IsStateOf : List Assigned → List ℤ → ClauseState → Type 0
IsStateOf t c AllFalse = (y : ℤ) → Contains c y → Holds t (length t) (neg_ℤ y)
IsStateOf t c (OneOpen x) = IsUnit t c x
IsStateOf t c Other = IsTrueBy t c ⊎ HasTwoOpen t c

-- what a scan of all clauses leaves behind, and how many variables are open then
abbrev pub IsScan : List (List ℤ) → List Assigned → ℕ → ℕ → Scanned → Type 0
IsScan clauses t before after (Conflict at) = IsConflict clauses t at
IsScan clauses t before after Units = after < before
IsScan clauses t before after Quiet = Settled clauses t (length t)

-- a conflict, or values under which no unit is left
abbrev pub IsPropagated : List (List ℤ) → List Assigned → Option ℕ → Type 0
IsPropagated clauses t (Some at) = IsConflict clauses t at
IsPropagated clauses t None = Settled clauses t (length t)

-- values of all variables, under which no clause has false numbers alone
pub record IsComplete (clauses : List (List ℤ)) (size : ℕ) (t : List Assigned) : Type 0 where
  pub settled : Settled clauses t (length t)
  pub each : (v : ℕ) → 0 < v → v < size → HasValue t (length t) v

-- a conflict, or values of all variables
abbrev pub IsSearched : List (List ℤ) → ℕ → List Assigned → Option ℕ → Type 0
IsSearched clauses size t (Some at) = IsConflict clauses t at
IsSearched clauses size t None = IsComplete clauses size t

-- the least variable without a value
pub record IsLeastOpen (size : ℕ) (t : List Assigned) (v : ℕ) : Type 0 where
  pub real : 0 < v
  pub within : v < size
  pub unset : HasValue t (length t) v → ⊥
  pub least : (u : ℕ) → 0 < u → u < v → HasValue t (length t) u

abbrev pub IsBranch : ℕ → List Assigned → Option ℕ → Type 0
IsBranch size t (Some v) = IsLeastOpen size t v
IsBranch size t None = (v : ℕ) → 0 < v → v < size → HasValue t (length t) v

-- of the first n numbers of a clause each is false but for the one that was found open
pub record AreSeen (t : List Assigned) (c : List ℤ) (n : ℕ) (found : Option ℤ) : Type 0 where
  pub each : (k : ℕ) (y : ℤ) → k < n → slice_get c k ≡ Some y → (found ≡ Some y) ⊎ Holds t (length t) (neg_ℤ y)
  pub unset : (x : ℤ) → found ≡ Some x → (k : ℕ) × (k < n) × (slice_get c k ≡ Some x) × (HasValue t (length t) (unsigned_abs x) → ⊥)

-- where none of the first n clauses was a unit, the values are as they were, and these clauses are settled
pub record AreScanned (clauses : List (List ℤ)) (size before n : ℕ) (quiet : Bool) (values : List (Option Bool)) (t : List Assigned) : Type 0 where
  pub state : IsState clauses values t
  pub sized : length values ≡ size
  pub fewer : open_variables values ≤ before
  pub some : quiet ≡ false → open_variables values < before
  pub settled : quiet ≡ true → (k : ℕ) (c : List ℤ) → k < n → slice_get clauses k ≡ Some c → IsSettledBy t (length t) c

-- the state between two scans
pub record IsBetween (clauses : List (List ℤ)) (size before : ℕ) (values : List (Option Bool)) (t : List Assigned) : Type 0 where
  pub state : IsState clauses values t
  pub sized : length values ≡ size
  pub fewer : open_variables values ≤ before
