-- What orders that are known wherever a condition is met give.
use Rattle.std.specs.Prelude.{◌≡◌, ℕ, ◌+◌, ◌%◌, ◌^◌, ◌<◌, Bool, true, nat_lt, List}
use Rattle.std.specs.List.{All}
use Rattle.polynomials.specs.Values.{AreBelow, AreTruths, Same, value}
use Rattle.polynomials.specs.declared.polynomial.Term.{Term}
use Rattle.circuits.specs.declared.net.Bit.{Bit}
use Rattle.circuits.specs.declared.net.NetNode.{NetNode}
use Rattle.circuits.specs.declared.inequalities.Known.{Known}
use Rattle.circuits.specs.declared.inequalities.Equality.{Equality}
use Rattle.circuits.specs.declared.given.Given.{Given}
use Rattle.circuits.specs.declared.ranges.Range.{Range}
use Rattle.circuits.specs.Words.{IsOver, unknown}
use Rattle.circuits.specs.Facts.{AllFollow, Condition, IsFact}
use Rattle.circuits.specs.Ranges.{IsWithin}

-- whether one polynomial over words is less than another, both modulo 2^width, wherever a condition is met
pub record IsOrderWhere (net : List NetNode) (words : List (List Bit)) (here : Condition) (width : ℕ) (lesser greater : List Term) (value_is : Bool) : Type 0 where
  pub lesser_over : IsOver words lesser
  pub greater_over : IsOver words greater
  pub is : (v : ℕ → Bool) → here v ≡ true → nat_lt (value (unknown v net words) lesser % 2 ^ width) (value (unknown v net words) greater % 2 ^ width) ≡ value_is

abbrev pub IsKnown : List NetNode → List (List Bit) → Condition → Known → Type 0
IsKnown net words here k = IsOrderWhere net words here k.width k.lesser k.greater k.is_less

abbrev pub AreKnown : List NetNode → List (List Bit) → Condition → List Known → Type 0
AreKnown net words here known = All (λ k. IsKnown net words here k) known

abbrev pub AreEqualities : List NetNode → List (List Bit) → Condition → List Equality → Type 0
AreEqualities net words here equalities = All (λ e. IsFact net words here e.width e.polynomial) equalities

-- an equality that two orders give, wherever both are known
abbrev pub Follows : Known → Known → List Term → Type 0
Follows x y p = (net : List NetNode) (words : List (List Bit)) (here : Condition) → IsKnown net words here x → IsKnown net words here y → IsFact net words here x.width p

-- p - q
pub record IsDifference (width : ℕ) (p q new : List Term) : Type 0 where
  pub is : (v : ℕ → ℕ) → AreTruths v → Same width (value v new + value v q) (value v p)
  pub within : (n : ℕ) → 0 < n → AreBelow n p → AreBelow n q → AreBelow n new

-- p is q and a number more
pub record IsMoreBy (width by : ℕ) (p q : List Term) : Type 0 where
  pub is : (v : ℕ → ℕ) → AreTruths v → Same width (value v p) (value v q + by)

-- where a polynomial is 0, two pairs are the same numbers modulo 2^width
pub record IsOtherDifference (width : ℕ) (a b c d apart : List Term) : Type 0 where
  pub lesser : (v : ℕ → ℕ) → AreTruths v → Same width (value v apart) 0 → Same width (value v a) (value v c)
  pub greater : (v : ℕ → ℕ) → AreTruths v → Same width (value v apart) 0 → Same width (value v b) (value v d)

-- two pairs of polynomials over words are the same numbers modulo 2^width wherever a condition is met
pub record IsSameOrder (net : List NetNode) (words : List (List Bit)) (here : Condition) (width : ℕ) (a b c d : List Term) : Type 0 where
  pub lesser : (v : ℕ → Bool) → here v ≡ true → Same width (value (unknown v net words) a) (value (unknown v net words) c)
  pub greater : (v : ℕ → Bool) → here v ≡ true → Same width (value (unknown v net words) b) (value (unknown v net words) d)

-- what is given wherever a condition is met
pub record IsGiven (net : List NetNode) (words : List (List Bit)) (here : Condition) (given : Given) : Type 0 where
  pub bits : AllFollow net here given.bits.items
  pub orders : AreKnown net words here given.orders.items
  pub equalities : AreEqualities net words here given.equalities.items

-- a polynomial over words is in a range, modulo 2^width, wherever a condition is met
pub record IsWithinWhere (net : List NetNode) (words : List (List Bit)) (here : Condition) (width : ℕ) (terms : List Term) (r : Range) : Type 0 where
  pub is : (v : ℕ → Bool) → here v ≡ true → IsWithin r (value (unknown v net words) terms % 2 ^ width)

-- one number is more than another by so much less 2^width, wherever a condition is met
pub record IsShifted (net : List NetNode) (words : List (List Bit)) (here : Condition) (width : ℕ) (p q : List Term) (by : ℕ) : Type 0 where
  pub is : (v : ℕ → Bool) → here v ≡ true → value (unknown v net words) p % 2 ^ width + 2 ^ width ≡ value (unknown v net words) q % 2 ^ width + by

-- whether one polynomial over words is less than another wherever a condition is met
pub record IsValueWhere (net : List NetNode) (words : List (List Bit)) (here : Condition) (width : ℕ) (a b : List Term) (value_is : Bool) : Type 0 where
  pub is : (v : ℕ → Bool) → here v ≡ true → nat_lt (value (unknown v net words) a % 2 ^ width) (value (unknown v net words) b % 2 ^ width) ≡ value_is
