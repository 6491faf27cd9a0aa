-- What a polynomial is worth wherever some others, the facts, are 0 modulo 2^w.
use Rattle.std.specs.Prelude.{ℕ, List}
use Rattle.std.specs.List.{All}
use Rattle.polynomials.specs.declared.polynomial.Term.{Term}
use Rattle.polynomials.specs.Values.{Same, AreTruths, value, AreFactorsBelow, AreBelow}

-- each fact is 0
abbrev pub AreZeros : ℕ → (ℕ → ℕ) → List (List Term) → Type 0
AreZeros w v facts = All (λ f. Same w (value v f) 0) facts

-- no unknown stands in the facts but those below n
abbrev pub AreAllBelow : ℕ → List (List Term) → Type 0
AreAllBelow n facts = All (λ f. AreBelow n f) facts

-- the old polynomial wherever the facts are 0, in their unknowns
pub record IsReduced (w : ℕ) (facts : List (List Term)) (old new : List Term) : Type 0 where
  pub is : (v : ℕ → ℕ) → AreTruths v → AreZeros w v facts → Same w (value v new) (value v old)
  pub within : (n : ℕ) → AreAllBelow n facts → AreBelow n old → AreBelow n new

-- the same by a single fact
pub record IsReducedBy (w : ℕ) (fact old new : List Term) : Type 0 where
  pub is : (v : ℕ → ℕ) → AreTruths v → Same w (value v fact) 0 → Same w (value v new) (value v old)
  pub within : (n : ℕ) → AreBelow n fact → AreBelow n old → AreBelow n new

-- 0 wherever the facts are, in their unknowns
pub record Follows (w : ℕ) (facts : List (List Term)) (new : List Term) : Type 0 where
  pub is : (v : ℕ → ℕ) → AreTruths v → AreZeros w v facts → Same w (value v new) 0
  pub within : (n : ℕ) → AreAllBelow n facts → AreBelow n new

-- each of the new facts is 0 wherever the old ones are
abbrev pub AllFollow : ℕ → List (List Term) → List (List Term) → Type 0
AllFollow w old new = All (λ f. Follows w old f) new

-- some of the old factors alone
pub record AreAmong (old new : List ℕ) : Type 0 where
  pub within : (n : ℕ) → AreFactorsBelow n old → AreFactorsBelow n new

-- factors that stand in the terms alone
pub record StandIn (terms : List Term) (factors : List ℕ) : Type 0 where
  pub within : (n : ℕ) → AreBelow n terms → AreFactorsBelow n factors
