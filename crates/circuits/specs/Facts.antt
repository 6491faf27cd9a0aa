-- What follows wherever inputs meet a condition: that a bit of a net is true, mostly.
use Rattle.std.specs.Prelude.{◌≡◌, ℕ, ◌+◌, ◌*◌, ◌%◌, ◌^◌, ◌<◌, Bool, true, ◌&&◌, ◌||◌, nat_eq, List, length, Option, IfSome}
use Rattle.std.specs.List.{All}
use Rattle.polynomials.specs.Values.{AreBelow, Same, factor, value}
use Rattle.polynomials.specs.declared.polynomial.Term.{Term}
use Rattle.circuits.specs.declared.net.Bit.{Bit}
use Rattle.circuits.specs.declared.net.NetNode.{NetNode}
use Rattle.circuits.specs.Net.{holds, opposite, IsIn}
use Rattle.circuits.specs.Numbers.{digit, AreIn}
use Rattle.circuits.specs.Words.{IsOver, unknown}

-- what inputs may meet
abbrev pub Condition : Type 0
Condition = (ℕ → Bool) → Bool

-- bits that are true wherever a condition is met
pub record AllFollow (net : List NetNode) (here : Condition) (bits : List Bit) : Type 0 where
  pub inside : AreIn net bits
  pub is : (v : ℕ → Bool) → here v ≡ true → All (λ b. holds v net b ≡ true) bits

-- a condition that no inputs meet
abbrev pub IsNowhere : Condition → Type 0
IsNowhere here = (v : ℕ → Bool) → here v ≡ true → ⊥

-- the value of a bit wherever a condition is met
pub record IsAnswer (net : List NetNode) (here : Condition) (b : Bit) (value : Bool) : Type 0 where
  pub is : (v : ℕ → Bool) → here v ≡ true → holds v net b ≡ value

-- a bit that has the value of another wherever a condition is met
pub record IsAlike (net : List NetNode) (here : Condition) (b r : Bit) : Type 0 where
  pub inside : IsIn net r
  pub is : (v : ℕ → Bool) → here v ≡ true → holds v net b ≡ holds v net r

-- a polynomial over words that is 0 modulo 2^width wherever a condition is met
pub record IsFact (net : List NetNode) (words : List (List Bit)) (here : Condition) (width : ℕ) (terms : List Term) : Type 0 where
  pub over : IsOver words terms
  pub is : (v : ℕ → Bool) → here v ≡ true → Same width (value (unknown v net words) terms) 0

abbrev pub AreFacts : List NetNode → List (List Bit) → Condition → ℕ → List (List Term) → Type 0
AreFacts net words here width facts = All (λ f. IsFact net words here width f) facts

-- whether a polynomial over words is 0 modulo 2^width wherever a condition is met
pub record IsZeroWhere (net : List NetNode) (words : List (List Bit)) (here : Condition) (width : ℕ) (terms : List Term) (value_is : Bool) : Type 0 where
  pub is : (v : ℕ → Bool) → here v ≡ true → nat_eq (value (unknown v net words) terms % 2 ^ width) 0 ≡ value_is

-- a bit is the conjunction of two
pub record IsBoth (net : List NetNode) (b left right : Bit) : Type 0 where
  pub left_in : IsIn net left
  pub right_in : IsIn net right
  pub is : (v : ℕ → Bool) → holds v net b ≡ (holds v net left && holds v net right)

-- a bit is true exactly where two others are
pub record IsConjunction (net : List NetNode) (left right b : Bit) : Type 0 where
  pub inside : IsIn net b
  pub is : (v : ℕ → Bool) → (holds v net left && holds v net right) ≡ holds v net b

-- the value of a conjunction of two bits, of which some values are known
pub record IsConjoined (left right : Option Bool) (r : Bool) : Type 0 where
  pub is : (x y : Bool) → IfSome left (λ l. x ≡ l) → IfSome right (λ k. y ≡ k) → (x && y) ≡ r

-- a bit is true exactly where one of two is
pub record IsEither (net : List NetNode) (left right b : Bit) : Type 0 where
  pub inside : IsIn net b
  pub is : (v : ℕ → Bool) → holds v net b ≡ (holds v net left || holds v net right)

-- a bit is the disjunction of two
pub record IsDisjunction (net : List NetNode) (b left right : Bit) : Type 0 where
  pub left_in : IsIn net left
  pub right_in : IsIn net right
  pub is : (v : ℕ → Bool) → holds v net b ≡ (holds v net left || holds v net right)

-- a bit that is true wherever others follow and one is true besides
pub record IsLeftOut (net : List NetNode) (known : List Bit) (b r : Bit) : Type 0 where
  pub inside : IsIn net r
  pub is : (here : Condition) → AllFollow net here known → (v : ℕ → Bool) → here v ≡ true → holds v net b ≡ true → holds v net r ≡ true

-- two bits of which one at least is true wherever others follow
pub record AreArms (net : List NetNode) (known : List Bit) (left right : Bit) : Type 0 where
  pub left_in : IsIn net left
  pub right_in : IsIn net right
  pub is : (here : Condition) → AllFollow net here known → (v : ℕ → Bool) → here v ≡ true → (holds v net left || holds v net right) ≡ true

-- a polynomial over words is another modulo 2^width wherever a condition is met
pub record IsRest (net : List NetNode) (words : List (List Bit)) (here : Condition) (width : ℕ) (terms rest : List Term) : Type 0 where
  pub over : IsOver words terms → IsOver words rest
  pub is : (v : ℕ → Bool) → here v ≡ true → Same width (value (unknown v net words) terms) (value (unknown v net words) rest)

-- two pairs with one bit in common, and others that are opposite
pub record AreParted (x y z w common : Bit) : Type 0 where
  pub is : common ≡ x
  pub same : x ≡ z
  pub apart : y ≡ opposite w

-- an unknown stands for a bit
pub record IsDigit (words : List (List Bit)) (x : ℕ) (b : Bit) : Type 0 where
  pub some : 0 < x
  pub over : x < 2 * length words + 2
  pub is : (v : ℕ → Bool) (net : List NetNode) → unknown v net words x ≡ digit (holds v net b)

-- an unknown that is 1 or 0 makes a polynomial 0 modulo 2^width
pub record IsTruthFact (width x : ℕ) (value_is : Bool) (terms : List Term) : Type 0 where
  pub within : (n : ℕ) → x < n → AreBelow n terms
  pub is : (v : ℕ → ℕ) → factor v x ≡ digit value_is → Same width (value v terms) 0
