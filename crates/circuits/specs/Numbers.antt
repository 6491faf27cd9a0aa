-- What lists of bits of a net count.
use Rattle.std.specs.Prelude.{◌≡◌, ℕ, zero, suc, ◌+◌, ◌*◌, ◌^◌, Bool, true, false, ℤ, pos, cond, List, [], ◌∷◌, length}
use Rattle.std.specs.List.{All}
use Rattle.c_core.specs.Types.{width_of, is_signed, signed_of}
use Rattle.c_core.specs.declared.number.DataModel.{DataModel}
use Rattle.c_core.specs.declared.number.IntType.{IntType}
use Rattle.circuits.specs.declared.net.Bit.{Bit}
use Rattle.circuits.specs.declared.net.NetNode.{NetNode}
use Rattle.circuits.specs.Net.{holds, IsIn}

-- a bit as a binary digit
abbrev pub digit : Bool → ℕ
digit true = 1
digit false = 0

-- the number whose binary digits the bits are, lowest first
unfoldable pub number : (ℕ → Bool) → List NetNode → List Bit → ℕ
number v net [] = 0
number v net (b ∷ bs) = digit (holds v net b) + 2 * number v net bs

-- the number whose n binary digits are the inputs from k on
unfoldable pub drawn : (ℕ → Bool) → ℕ → ℕ → ℕ
drawn v k zero = 0
drawn v k (suc n) = drawn v k n + 2 ^ n * digit (v (k + n))

-- bits of the net
abbrev pub AreIn : List NetNode → List Bit → Type 0
AreIn net bits = All (λ b. IsIn net b) bits

-- so many bits of the net, and their number for all inputs
pub record Counts (net : List NetNode) (bits : List Bit) (width : ℕ) (value : (ℕ → Bool) → ℕ) : Type 0 where
  pub inside : AreIn net bits
  pub wide : length bits ≡ width
  pub is : (v : ℕ → Bool) → number v net bits ≡ value v

-- a number below 2^w, read in two's complement where the type is signed (C11 6.2.6.2)
abbrev pub read : ℕ → Bool → ℕ → ℤ
read w signed n = cond signed (signed_of w n) (pos n)

-- the number of a list of bits in a type
abbrev pub typed : DataModel → IntType → (ℕ → Bool) → List NetNode → List Bit → ℤ
typed m ty v net bits = read (width_of m ty) (is_signed ty) (number v net bits)

-- bits of the net, as many as the type is wide
pub record AreTyped (m : DataModel) (ty : IntType) (net : List NetNode) (bits : List Bit) : Type 0 where
  pub inside : AreIn net bits
  pub wide : length bits ≡ width_of m ty

-- bits of the net, as many as the type is wide, and their number in it for all inputs
pub record Reads (m : DataModel) (ty : IntType) (net : List NetNode) (bits : List Bit) (value : (ℕ → Bool) → ℤ) : Type 0 where
  pub bits_in : AreTyped m ty net bits
  pub is : (v : ℕ → Bool) → typed m ty v net bits ≡ value v
