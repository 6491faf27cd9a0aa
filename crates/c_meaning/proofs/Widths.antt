-- Values of all types are numbers from -2^63 to 2^64 - 1.
use Rattle.std.proofs.Common.{◌≡◌, ◌≤◌, ◌^◌, ◌-◌, ℕ, ℤ, pos, negsuc, List, Bool as Test, true, false, cond, arith}
use Rattle.std.proofs.Math.Nat.{pow-le-pow_right}
use Rattle.std.proofs.lemmas.Bool.{ltb-true}
use Rattle.std.proofs.lemmas.Int.{ints}
use Rattle.std.proofs.lemmas.List.Elements.{All-weaker}
use Rattle.std.specs.List.{All}
use Rattle.c_core.specs.Types.{width_of, is_signed, fits_signed, fits_unsigned}
use Rattle.c_core.specs.declared.number.IntType.{IntType}
use Rattle.c_core.specs.declared.number.IntType.TheVariants.{Long, ULong}
use Rattle.c_core.specs.declared.number.DataModel.{DataModel}
use Rattle.c_core.specs.declared.number.DataModel.TheVariants.{Ilp32, Lp64}
use Rattle.c_meaning.specs.declared.run.Draw.{Draw}
use Rattle.c_meaning.specs.Drawn.{IsFitting, IsIn64Bits, AreFitting}

at_most_64 : (m : DataModel) (ty : IntType) → width_of m ty ≤ 64
at_most_64 Ilp32 Long = omega arith
at_most_64 Lp64 Long = omega arith
at_most_64 Ilp32 ULong = omega arith
at_most_64 Lp64 ULong = omega arith
at_most_64 m _ = omega arith

pow_le : (i j : ℕ) → i ≤ j → 2 ^ i ≤ 2 ^ j
pow_le i j h = pow-le-pow_right {n = 2} (omega arith) h

by_sign : (s : Test) (w : ℕ) (v : ℤ) → w ≤ 64 → cond s (fits_signed w v) (fits_unsigned w v) ≡ true → IsIn64Bits v
by_sign true w (pos n) h f = let l = ltb-true n (2 ^ (w - 1)) f in let b = pow_le (w - 1) 63 (omega arith) in (omega (arith, ints), omega (arith, ints))
by_sign true w (negsuc n) h f = let l = ltb-true n (2 ^ (w - 1)) f in let b = pow_le (w - 1) 63 (omega arith) in (omega (arith, ints), omega (arith, ints))
by_sign false w (pos n) h f = let l = ltb-true n (2 ^ w) f in let b = pow_le w 64 h in (omega (arith, ints), omega (arith, ints))
by_sign false w (negsuc n) h f = cc

in_64_bits : (m : DataModel) (draw : Draw) → IsFitting m draw → IsIn64Bits draw.value
in_64_bits m draw f = by_sign (is_signed draw.ty) (width_of m draw.ty) draw.value (at_most_64 m draw.ty) f

pub are_fitting : (m : DataModel) (draws : List Draw) → All (IsFitting m) draws → AreFitting m draws
are_fitting m draws fits = record { in_types = fits; in_64_bits = All-weaker (IsFitting m) (λ draw. IsIn64Bits draw.value) (in_64_bits m) draws fits }
