-- What the calls on factors and polynomials give, and why they refuse.
use Rattle.std.specs.Prelude.{◌≡◌, ℕ, ◌+◌, ◌*◌, ◌<◌, ◌≤◌, ◌⊎◌, List, length}
use Rattle.std.specs.List.{All, Any}
use Rattle.polynomials.specs.declared.polynomial.Term.{Term}
use Rattle.polynomials.specs.Values.{Same, AreTruths, product_of, value, degree, AreFactorsBelow, AreBelow}

-- the product of a and b
pub record IsProduct (a b r : List ℕ) : Type 0 where
  pub is : (v : ℕ → ℕ) → AreTruths v → product_of v r ≡ product_of v a * product_of v b
  pub within : (n : ℕ) → AreFactorsBelow n a → AreFactorsBelow n b → AreFactorsBelow n r
  pub few : degree r ≤ degree a + degree b

-- the factors that b lacks to be a
pub record IsQuotient (a b r : List ℕ) : Type 0 where
  pub is : (v : ℕ → ℕ) → AreTruths v → product_of v r * product_of v b ≡ product_of v a
  pub within : (n : ℕ) → AreFactorsBelow n a → AreFactorsBelow n r

-- one more term
pub record IsWithTerm (w : ℕ) (old : List Term) (coefficient : ℕ) (factors : List ℕ) (new : List Term) : Type 0 where
  pub is : (v : ℕ → ℕ) → Same w (value v new) (value v old + coefficient * product_of v factors)
  pub within : (n : ℕ) → AreBelow n old → AreFactorsBelow n factors → AreBelow n new

-- each coefficient times a number
pub record IsScaled (w : ℕ) (old : List Term) (by : ℕ) (new : List Term) : Type 0 where
  pub is : (v : ℕ → ℕ) → Same w (value v new) (by * value v old)
  pub within : (n : ℕ) → AreBelow n old → AreBelow n new

-- a multiple of another polynomial more
pub record IsWithMultiple (w : ℕ) (old : List Term) (coefficient : ℕ) (factors : List ℕ) (other new : List Term) : Type 0 where
  pub is : (v : ℕ → ℕ) → AreTruths v → Same w (value v new) (value v old + coefficient * product_of v factors * value v other)
  pub within : (n : ℕ) → AreBelow n old → AreFactorsBelow n factors → AreBelow n other → AreBelow n new

-- the product of p and q
pub record Multiplies (w : ℕ) (p q new : List Term) : Type 0 where
  pub is : (v : ℕ → ℕ) → AreTruths v → Same w (value v new) (value v p * value v q)
  pub within : (n : ℕ) → AreBelow n p → AreBelow n q → AreBelow n new

-- a product of more than six factors
abbrev pub IsTooHigh : List ℕ → List ℕ → Type 0
IsTooHigh a b = 6 < degree a + degree b

-- more than 32 terms, or a product of more than six factors
abbrev pub MultipleIsTooMuch : List Term → List ℕ → List Term → Type 0
MultipleIsTooMuch old factors other = (32 < length old + length other) ⊎ Any (λ t. IsTooHigh factors t.factors) other

-- the same of the product of two polynomials
abbrev pub ProductIsTooMuch : List Term → List Term → Type 0
ProductIsTooMuch p q = (32 < length p * length q) ⊎ Any (λ s. Any (λ t. IsTooHigh s.factors t.factors) q) p

-- an unknown stands in one of the terms
abbrev pub HasUnknowns : List Term → Type 0
HasUnknowns terms = Any (λ t. 0 < degree t.factors) terms

-- no unknown stands in the terms, and c is what they are worth
pub record IsConstant (terms : List Term) (c : ℕ) : Type 0 where
  pub bare : All (λ t. degree t.factors ≡ 0) terms
  pub is : (v : ℕ → ℕ) → Same 64 (value v terms) c

-- 0 modulo 2^w at the same unknowns
pub record HasSameZeros (w : ℕ) (old new : List Term) : Type 0 where
  pub kept : (v : ℕ → ℕ) → Same w (value v old) 0 → Same w (value v new) 0
  pub only : (v : ℕ → ℕ) → Same w (value v new) 0 → Same w (value v old) 0
  pub within : (n : ℕ) → AreBelow n old → AreBelow n new
