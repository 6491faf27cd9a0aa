-- The values of all types are those that constants spell.
use Rattle.std.proofs.Common.{◌≡◌, ◌<◌, ◌≤◌, ◌-◌, ◌^◌, ℕ, ℤ, pos, negsuc, ◌≤ℤ◌, true, arith}
use Rattle.std.proofs.lemmas.Int.{ints}
use Rattle.std.proofs.lemmas.Bool.{false≢true}
use Rattle.std.proofs.lemmas.Bool.Decides.{nat_tests}
use Rattle.c_core.specs.Types.{fits_signed, fits_unsigned, in_range}
use Rattle.c_core.specs.declared.number.DataModel.{DataModel}
use Rattle.c_core.specs.declared.number.DataModel.TheVariants.{Ilp32, Lp64}
use Rattle.c_core.specs.declared.number.IntType.{IntType}
use Rattle.c_core.specs.declared.number.IntType.TheVariants.{Bool as BoolType, Char, SChar, UChar, Short, UShort, Int, UInt, Long, ULong, LongLong, ULongLong}

-- from -2^63 to 2^64 - 1
pub record HasConstant (v : ℤ) : Type 0 where
  pub low : negsuc (2 ^ 63 - 1) ≤ℤ v
  pub high : v ≤ℤ pos (2 ^ 64 - 1)

signed_has : (w : ℕ) (v : ℤ) → 2 ^ (w - 1) ≤ 2 ^ 63 → fits_signed w v ≡ true → HasConstant v
signed_has w (pos n) few h =
    let small : n < 2 ^ (w - 1) = grind (arith, nat_tests) in
    record { low = omega (arith, ints); high = omega (arith, ints) }
signed_has w (negsuc n) few h =
    let small : n < 2 ^ (w - 1) = grind (arith, nat_tests) in
    record { low = omega (arith, ints); high = omega (arith, ints) }

unsigned_has : (w : ℕ) (v : ℤ) → 2 ^ w ≤ 2 ^ 64 → fits_unsigned w v ≡ true → HasConstant v
unsigned_has w (pos n) few h =
    let small : n < 2 ^ w = grind (arith, nat_tests) in
    record { low = omega (arith, ints); high = omega (arith, ints) }
unsigned_has w (negsuc n) few h = absurd (false≢true h)

pub has_constant : (m : DataModel) (ty : IntType) (v : ℤ) → in_range m ty v ≡ true → HasConstant v
has_constant m BoolType v h = unsigned_has 1 v (omega arith) h
has_constant m Char v h = signed_has 8 v (omega arith) h
has_constant m SChar v h = signed_has 8 v (omega arith) h
has_constant m UChar v h = unsigned_has 8 v (omega arith) h
has_constant m Short v h = signed_has 16 v (omega arith) h
has_constant m UShort v h = unsigned_has 16 v (omega arith) h
has_constant m Int v h = signed_has 32 v (omega arith) h
has_constant m UInt v h = unsigned_has 32 v (omega arith) h
has_constant Ilp32 Long v h = signed_has 32 v (omega arith) h
has_constant Lp64 Long v h = signed_has 64 v (omega arith) h
has_constant Ilp32 ULong v h = unsigned_has 32 v (omega arith) h
has_constant Lp64 ULong v h = unsigned_has 64 v (omega arith) h
has_constant m LongLong v h = signed_has 64 v (omega arith) h
has_constant m ULongLong v h = unsigned_has 64 v (omega arith) h
