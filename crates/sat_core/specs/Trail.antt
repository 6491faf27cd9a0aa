-- The trail: which values came, in which order, and why.
use Rattle.std.specs.Prelude.{◌≡◌, ◌≢◌, ℕ, ◌<◌, ◌^◌, false, not, Option, Some, None, List, slice_get, ℤ, neg_ℤ, unsigned_abs}
use Rattle.std.specs.List.{Contains}
use Rattle.clauses.specs.Tseitin.{number_of}
use Rattle.sat_core.specs.declared.trail.Assigned.{Assigned}

-- the number that a value makes true
abbrev pub number : Assigned → ℤ
number e = number_of (not e.value) e.variable

-- one of the first n values of the trail makes x true
pub record Holds (t : List Assigned) (n : ℕ) (x : ℤ) : Type 0 where
  pub at : ℕ
  pub entry : Assigned
  pub before : at < n
  pub there : slice_get t at ≡ Some entry
  pub is : number entry ≡ x

-- one of the first n values is that of the variable v
pub record HasValue (t : List Assigned) (n : ℕ) (v : ℕ) : Type 0 where
  pub at : ℕ
  pub entry : Assigned
  pub before : at < n
  pub there : slice_get t at ≡ Some entry
  pub is : entry.variable ≡ v

-- under the first n values the clause isn't a unit, and its numbers aren't all false
pub record IsSettledBy (t : List Assigned) (n : ℕ) (c : List ℤ) : Type 0 where
  pub closed : (x : ℤ) → Contains c x → ((y : ℤ) → Contains c y → y ≢ x → Holds t n (neg_ℤ y)) → Holds t n x
  pub stands : ((y : ℤ) → Contains c y → Holds t n (neg_ℤ y)) → ⊥

-- no unit is left, and no clause has false numbers alone
pub record Settled (clauses : List (List ℤ)) (t : List Assigned) (n : ℕ) : Type 0 where
  pub each : (c : List ℤ) → Contains clauses c → IsSettledBy t n c

-- the first n values make all numbers of the reason's clause false but x
pub record Implied (clauses : List (List ℤ)) (t : List Assigned) (n : ℕ) (x : ℤ) (reason : ℕ) : Type 0 where
  pub clause : List ℤ
  pub named : slice_get clauses reason ≡ Some clause
  pub held : Contains clause x
  pub others : (y : ℤ) → Contains clause y → y ≢ x → Holds t n (neg_ℤ y)

-- a decision: false, on the least variable without a value, where no unit is left
pub record Decided (clauses : List (List ℤ)) (t : List Assigned) (n : ℕ) (e : Assigned) : Type 0 where
  pub value : e.value ≡ false
  pub least : (u : ℕ) → 0 < u → u < e.variable → HasValue t n u
  pub settled : Settled clauses t n

abbrev pub Why : List (List ℤ) → List Assigned → ℕ → Assigned → Option ℕ → Type 0
Why clauses t n e (Some r) = Implied clauses t n (number e) r
Why clauses t n e None = Decided clauses t n e

-- a value that may come after the first n ones
pub record Follows (clauses : List (List ℤ)) (size : ℕ) (t : List Assigned) (n : ℕ) (e : Assigned) : Type 0 where
  pub real : 0 < e.variable
  pub within : e.variable < size
  pub first : HasValue t n e.variable → ⊥
  pub why : Why clauses t n e e.reason

-- each value may come after those before it
pub record IsTrail (clauses : List (List ℤ)) (size : ℕ) (t : List Assigned) : Type 0 where
  pub each : (n : ℕ) (e : Assigned) → slice_get t n ≡ Some e → Follows clauses size t n e

-- a number of a variable below the size, whose opposite fits too
pub record IsNumberOf (size : ℕ) (x : ℤ) : Type 0 where
  pub real : 0 < unsigned_abs x
  pub within : unsigned_abs x < size
  pub small : unsigned_abs x < 2 ^ 31

pub record AreNumbersOf (size : ℕ) (clauses : List (List ℤ)) : Type 0 where
  pub each : (c : List ℤ) (x : ℤ) → Contains clauses c → Contains c x → IsNumberOf size x
