-- The table of values beside the trail.
use Rattle.std.specs.Prelude.{◌≡◌, ℕ, Bool, true, false, Option, Some, None, List, [], ◌∷◌, suc, ◌+◌, length, take, slice_get, ℤ, neg_ℤ, unsigned_abs}
use Rattle.sat_core.specs.declared.trail.Assigned.{Assigned}
use Rattle.sat_core.specs.Trail.{Holds, HasValue, IsTrail, AreNumbersOf}

-- a value of a variable on the trail
pub record Valued (t : List Assigned) (v : ℕ) (b : Bool) : Type 0 where
  pub at : ℕ
  pub entry : Assigned
  pub there : slice_get t at ≡ Some entry
  pub variable : entry.variable ≡ v
  pub value : entry.value ≡ b

-- the table tells the values on the trail, and no others
pub record Told (values : List (Option Bool)) (t : List Assigned) : Type 0 where
  pub onto : (n : ℕ) (e : Assigned) → slice_get t n ≡ Some e → slice_get values e.variable ≡ Some (Some e.value)
  pub from : (v : ℕ) (b : Bool) → slice_get values v ≡ Some (Some b) → Valued t v b

-- the values and the trail over the clauses
pub record IsState (clauses : List (List ℤ)) (values : List (Option Bool)) (t : List Assigned) : Type 0 where
  pub told : Told values t
  pub trail : IsTrail clauses (length values) t
  pub numbers : AreNumbersOf (length values) clauses

-- what is told of a number
abbrev pub IsValue : List Assigned → ℤ → Option Bool → Type 0
IsValue t x (Some true) = Holds t (length t) x
IsValue t x (Some false) = Holds t (length t) (neg_ℤ x)
IsValue t x None = HasValue t (length t) (unsigned_abs x) → ⊥

-- how many variables have no value
abbrev pub open_variables : List (Option Bool) → ℕ
open_variables [] = 0
open_variables (None ∷ values) = suc (open_variables values)
open_variables (Some b ∷ values) = open_variables values

-- the trail and the table, as many values back as the counter is above what is kept
pub record IsCut (all : List Assigned) (size kept counter : ℕ) (values : List (Option Bool)) (t : List Assigned) : Type 0 where
  pub front : t ≡ take (length t) all
  pub long : length t + counter ≡ length all + kept
  pub told : Told values t
  pub sized : length values ≡ size
