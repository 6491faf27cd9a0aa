-- What polynomials over numbered unknowns are worth.
use Rattle.std.specs.Prelude.{◌≡◌, ℕ, zero, suc, ◌*◌, ◌^◌, ◌%◌, ◌<◌, ◌≤◌, nat_lt, count_by, sum_by, List, [], ◌∷◌}
use Rattle.std.specs.List.{All}
use Rattle.polynomials.specs.declared.polynomial.Term.{Term}

-- equal modulo 2^w
pub record Same (w a b : ℕ) : Type 0 where
  pub is : a % 2 ^ w ≡ b % 2 ^ w

-- odd numbers stand for unknowns that are 0 or 1
pub record AreTruths (v : ℕ → ℕ) : Type 0 where
  pub small : (h : ℕ) → h % 2 ≡ 1 → v h ≤ 1

-- 0 stands for no factor, any other number for an unknown
abbrev pub factor : (ℕ → ℕ) → ℕ → ℕ
factor v zero = 1
factor v (suc x) = v (suc x)

-- the product of some factors
unfoldable pub product_of : (ℕ → ℕ) → List ℕ → ℕ
product_of v [] = 1
product_of v (x ∷ xs) = factor v x * product_of v xs

-- the sum of some terms
abbrev pub value : (ℕ → ℕ) → List Term → ℕ
value v terms = sum_by (λ t. t.coefficient * product_of v t.factors) terms

-- each factor is below n
abbrev pub AreFactorsBelow : ℕ → List ℕ → Type 0
AreFactorsBelow n factors = All (λ x. x < n) factors

-- each factor of each term is below n
abbrev pub AreBelow : ℕ → List Term → Type 0
AreBelow n terms = All (λ t. AreFactorsBelow n t.factors) terms

-- how many factors aren't 0
abbrev pub degree : List ℕ → ℕ
degree factors = count_by (λ x. nat_lt 0 x) factors
