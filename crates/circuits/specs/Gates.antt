-- What the gates compute.
use Rattle.std.specs.Prelude.{◌≡◌, ℕ, ◌+◌, ◌*◌, ◌^◌, ◌-◌, Bool, not, ◌&&◌, ◌||◌, nat_lt, List, cond, bit_and, bit_or, bit_xor}
use Rattle.circuits.specs.declared.net.Bit.{Bit}
use Rattle.circuits.specs.declared.net.NetNode.{NetNode}
use Rattle.circuits.specs.declared.gates.Gate.{Gate}
use Rattle.circuits.specs.declared.gates.Gate.TheVariants.{And, Xor, Or}
use Rattle.circuits.specs.Net.{holds, xor, IsIn}
use Rattle.circuits.specs.Numbers.{digit}

-- the two digits of the sum of three bits of an older net
pub record IsSumOf (old new : List NetNode) (low high x y z : Bit) : Type 0 where
  pub low_in : IsIn new low
  pub high_in : IsIn new high
  pub is : (v : ℕ → Bool) → digit (holds v new low) + 2 * digit (holds v new high) ≡ digit (holds v old x) + digit (holds v old y) + digit (holds v old z)

abbrev pub gate_of : Gate → Bool → Bool → Bool
gate_of And a b = a && b
gate_of Xor a b = xor a b
gate_of Or a b = a || b

-- the gate at each pair of digits of two numbers
abbrev pub digits_of : Gate → ℕ → ℕ → ℕ
digits_of And a b = bit_and a b
digits_of Xor a b = bit_xor a b
digits_of Or a b = bit_or a b

-- a number of w digits is negative in a type
abbrev pub negative : ℕ → Bool → ℕ → Bool
negative w signed n = signed && not (nat_lt n (2 ^ (w - 1)))

-- the distance from 0 of a number of w digits in a type
abbrev pub size : ℕ → Bool → ℕ → ℕ
size w signed n = cond (negative w signed n) (2 ^ w - n) n
