-- A value that was converted to a type is a value of the type: converting it again changes nothing.
use Rattle.std.proofs.Common.{◌≡◌, ℕ, suc, ◌-◌, ◌%◌, ◌^◌, ◌<◌, Bool, true, false, cond, not, nat_lt, ℤ, pos, negsuc, refl, ap, arith}
use Rattle.std.proofs.lemmas.Nat.{pow_pos, mod_below}
use Rattle.std.proofs.Math.Nat.{mod-eq_of_lt}
use Rattle.c_core.specs.Types.{residue, signed_of, wrapped, fit, number_of, is_zero}
use Rattle.c_core.specs.declared.number.IntType.{IntType}
use Rattle.c_core.specs.declared.number.IntType.TheVariants.{Bool as BoolType, Char, SChar, UChar, Short, UShort, Int, UInt, Long, ULong, LongLong, ULongLong}
use Rattle.c_core.specs.declared.number.DataModel.{DataModel}

residue_below : (w : ℕ) (v : ℤ) → residue w v < 2 ^ w
unfolding residue
residue_below w (pos n) = mod_below n (2 ^ w) (pow_pos w)
residue_below w (negsuc n) = let h = pow_pos w in omega arith

residue_of_residue : (w n : ℕ) → n < 2 ^ w → residue w (pos n) ≡ n
unfolding residue
residue_of_residue w n h = mod-eq_of_lt h

residue_of_negative : (w n : ℕ) → n < 2 ^ w → residue w (negsuc (2 ^ w - suc n)) ≡ n
unfolding residue
residue_of_negative w n h = let e : (2 ^ w - suc n) % 2 ^ w ≡ 2 ^ w - suc n = mod-eq_of_lt (omega arith) in rw e (omega arith)

residue_of_either : (b : Bool) (w n : ℕ) → n < 2 ^ w → residue w (cond b (pos n) (negsuc (2 ^ w - suc n))) ≡ n
residue_of_either true w n h = residue_of_residue w n h
residue_of_either false w n h = residue_of_negative w n h

residue_of_signed : (w n : ℕ) → n < 2 ^ w → residue w (signed_of w n) ≡ n
unfolding signed_of
residue_of_signed w n h = residue_of_either (nat_lt n (2 ^ (w - 1))) w n h

wrapped_twice : (w : ℕ) (signed : Bool) (v : ℤ) → wrapped w signed (wrapped w signed v) ≡ wrapped w signed v
unfolding wrapped
wrapped_twice w true v = ap (signed_of w) (residue_of_signed w (residue w v) (residue_below w v))
wrapped_twice w false v = ap pos (residue_of_residue w (residue w v) (residue_below w v))

truth_twice : (b : Bool) → number_of (not (is_zero (number_of b))) ≡ number_of b
truth_twice true = refl
truth_twice false = refl

pub fit_twice : (m : DataModel) (ty : IntType) (v : ℤ) → fit m ty (fit m ty v) ≡ fit m ty v
fit_twice m BoolType v = truth_twice (not (is_zero v))
fit_twice m Char v = wrapped_twice _ _ v
fit_twice m SChar v = wrapped_twice _ _ v
fit_twice m UChar v = wrapped_twice _ _ v
fit_twice m Short v = wrapped_twice _ _ v
fit_twice m UShort v = wrapped_twice _ _ v
fit_twice m Int v = wrapped_twice _ _ v
fit_twice m UInt v = wrapped_twice _ _ v
fit_twice m Long v = wrapped_twice _ _ v
fit_twice m ULong v = wrapped_twice _ _ v
fit_twice m LongLong v = wrapped_twice _ _ v
fit_twice m ULongLong v = wrapped_twice _ _ v
