-- What the rows of a written division give.
use Rattle.std.specs.Prelude.{◌≡◌, ℕ, ◌+◌, ◌*◌, ◌/◌, ◌%◌, ◌^◌, ◌-◌, ◌<◌, ◌&&◌, Bool, false, not, nat_eq, nat_lt, int_div, int_rem, List, length}
use Rattle.circuits.specs.declared.net.Bit.{Bit}
use Rattle.circuits.specs.declared.net.NetNode.{NetNode}
use Rattle.circuits.specs.Net.{holds, IsIn, Means}
use Rattle.circuits.specs.declared.quotients.Division.{Division}
use Rattle.circuits.specs.Numbers.{number, digit, typed, AreIn, AreTyped}
use Rattle.c_core.specs.Types.{width_of, is_signed, in_range, residue}
use Rattle.c_core.specs.declared.number.DataModel.{DataModel}
use Rattle.c_core.specs.declared.number.IntType.{IntType}
use Rattle.polynomials.specs.Values.{Same}

-- where the rest is below b: a digit, and a new rest below b
pub record IsRow (old new : List NetNode) (next : Bit) (rest b : List Bit) (quotient : Bit) (out : List Bit) : Type 0 where
  pub digit_in : IsIn new quotient
  pub inside : AreIn new out
  pub wide : length out ≡ length b
  pub is : (v : ℕ → Bool) → number v old rest < number v old b → number v new out + number v old b * digit (holds v new quotient) ≡ digit (holds v old next) + 2 * number v old rest
  pub below : (v : ℕ → Bool) → number v old rest < number v old b → number v new out < number v old b

-- quotients of m digits and remainders of n digits, wherever g isn't 0
pub record Divides (new : List NetNode) (m n : ℕ) (f g : (ℕ → Bool) → ℕ) (quotient rest : List Bit) : Type 0 where
  pub quotient_in : AreIn new quotient
  pub rest_in : AreIn new rest
  pub quotient_wide : length quotient ≡ m
  pub rest_wide : length rest ≡ n
  pub quotient_is : (v : ℕ → Bool) → 0 < g v → number v new quotient ≡ f v / g v
  pub rest_is : (v : ℕ → Bool) → 0 < g v → number v new rest ≡ f v % g v

-- whether b isn't 0, and whether the type is signed and doesn't hold the quotient of this sign and distance from 0
pub record IsJudged (old new : List NetNode) (s : Bool) (b quotient : List Bit) (test some_bit overflow_bit : Bit) : Type 0 where
  pub some : Means new some_bit (λ v. not (nat_eq (number v old b) 0))
  pub overflow : Means new overflow_bit (λ v. not (nat_eq (number v old b) 0) && (s && not (nat_lt (number v old quotient) (2 ^ (length b - 1) + digit (holds v old test)))))

-- the quotient and the remainder of two numbers in a type wherever b isn't 0, and the law that binds them
pub record IsDivision (m : DataModel) (ty : IntType) (old new : List NetNode) (a b : List Bit) (d : Division) : Type 0 where
  pub quotient_in : AreTyped m ty new d.quotient.items
  pub rest_in : AreTyped m ty new d.rest.items
  pub some : Means new d.some (λ v. not (nat_eq (number v old b) 0))
  pub overflow : Means new d.overflow (λ v. not (nat_eq (number v old b) 0) && (is_signed ty && not (in_range m ty (int_div (typed m ty v old a) (typed m ty v old b)))))
  pub quotient_is : (v : ℕ → Bool) → nat_eq (number v old b) 0 ≡ false → number v new d.quotient.items ≡ residue (width_of m ty) (int_div (typed m ty v old a) (typed m ty v old b))
  pub rest_is : (v : ℕ → Bool) → nat_eq (number v old b) 0 ≡ false → number v new d.rest.items ≡ residue (width_of m ty) (int_rem (typed m ty v old a) (typed m ty v old b))
  pub law : (v : ℕ → Bool) → nat_eq (number v old b) 0 ≡ false → Same (width_of m ty) (number v new d.quotient.items * number v old b + number v new d.rest.items) (number v old a)
