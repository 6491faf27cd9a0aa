-- Conversion: what it keeps, and where it leads.
use Rattle.std.proofs.Common.{◌≡◌, ℕ, zero, suc, ◌-◌, ◌*◌, ◌^◌, ◌<◌, ◌≤◌, Bool as Test, true, false, cond, not, ℤ, pos, negsuc, inl, inr, refl, ap, arith}
use Rattle.std.proofs.Math.Nat.{mod-eq_of_lt, pow-suc, pow-le-pow_right}
use Rattle.std.proofs.lemmas.Bool.{le-ltb, lt-ltb, ltb-true, cases_lt}
use Rattle.c_core.specs.Types.{width_of, is_signed, is_zero, number_of, fits_signed, fits_unsigned, in_range, residue, signed_of, wrapped, fit, promote_of, Holds, IsWithin}
use Rattle.c_core.specs.declared.number.IntType.{IntType}
use Rattle.c_core.specs.declared.number.IntType.TheVariants.{Bool, Long, ULong}
use Rattle.c_core.specs.declared.number.DataModel.{DataModel}
use Rattle.c_core.specs.declared.number.DataModel.TheVariants.{Ilp32, Lp64}
use Rattle.c_core.proofs.Residues.{residue_below}

some_bits : (m : DataModel) (ty : IntType) → 0 < width_of m ty
some_bits m Bool = omega arith
some_bits Ilp32 Long = omega arith
some_bits Lp64 Long = omega arith
some_bits Ilp32 ULong = omega arith
some_bits Lp64 ULong = omega arith
some_bits m _ = omega arith

half_of : (w : ℕ) → 0 < w → 2 ^ w ≡ 2 * 2 ^ (w - 1)
half_of zero h = absurd (omega arith)
half_of (suc k) h = let e : suc k - 1 ≡ k = omega arith in rw e (omega (arith, pow-suc 2 k))

-- ---- at a width

pub signed_kept : (w : ℕ) (v : ℤ) → 0 < w → fits_signed w v ≡ true → wrapped w true v ≡ v
unfolding wrapped residue signed_of
signed_kept w (pos n) h f =
    let l = ltb-true n (2 ^ (w - 1)) f in
    let k : n < 2 ^ w = omega (arith, half_of w h) in
    rw (mod-eq_of_lt k, f) refl
signed_kept w (negsuc n) h f =
    let l = ltb-true n (2 ^ (w - 1)) f in
    let k : n < 2 ^ w = omega (arith, half_of w h) in
    let e : 2 ^ w - suc (2 ^ w - 1 - n) ≡ n = omega arith in
    rw (mod-eq_of_lt k, le-ltb (2 ^ w - 1 - n) (2 ^ (w - 1)) (omega (arith, half_of w h)), e) refl

pub unsigned_kept : (w : ℕ) (v : ℤ) → fits_unsigned w v ≡ true → wrapped w false v ≡ v
unfolding wrapped residue
unsigned_kept w (pos n) f = ap pos (mod-eq_of_lt (ltb-true n (2 ^ w) f))
unsigned_kept w (negsuc n) f = cc

signed_of_fits : (w n : ℕ) → 0 < w → n < 2 ^ w → fits_signed w (signed_of w n) ≡ true
unfolding signed_of
signed_of_fits w n h l = elim (cases_lt n (2 ^ (w - 1))) [
  | inl lt ↦ let e = lt-ltb n (2 ^ (w - 1)) lt in rw e e
  | inr ge ↦ rw (le-ltb n (2 ^ (w - 1)) ge) (lt-ltb (2 ^ w - suc n) (2 ^ (w - 1)) (omega (arith, half_of w h)))
]

pub wrapped_signed_fits : (w : ℕ) (v : ℤ) → 0 < w → fits_signed w (wrapped w true v) ≡ true
unfolding wrapped
wrapped_signed_fits w v h = signed_of_fits w (residue w v) h (residue_below w v)

pub wrapped_unsigned_fits : (w : ℕ) (v : ℤ) → fits_unsigned w (wrapped w false v) ≡ true
unfolding wrapped
wrapped_unsigned_fits w v = lt-ltb (residue w v) (2 ^ w) (residue_below w v)

-- ---- at a type

fit_kept_bool : (v : ℤ) → fits_unsigned 1 v ≡ true → number_of (not (is_zero v)) ≡ v
fit_kept_bool (pos zero) h = refl
fit_kept_bool (pos (suc zero)) h = refl
fit_kept_bool (pos (suc (suc n))) h = absurd (let l = ltb-true (suc (suc n)) 2 h in omega arith)
fit_kept_bool (negsuc n) h = cc

kept_by_sign : (w : ℕ) (s : Test) (v : ℤ) → 0 < w → cond s (fits_signed w v) (fits_unsigned w v) ≡ true → wrapped w s v ≡ v
kept_by_sign w true v h f = signed_kept w v h f
kept_by_sign w false v h f = unsigned_kept w v f

fits_by_sign : (w : ℕ) (s : Test) (v : ℤ) → 0 < w → cond s (fits_signed w (wrapped w s v)) (fits_unsigned w (wrapped w s v)) ≡ true
fits_by_sign w true v h = wrapped_signed_fits w v h
fits_by_sign w false v h = wrapped_unsigned_fits w v

-- a value of the type stays as it is
pub fit_kept : (m : DataModel) (ty : IntType) (v : ℤ) → in_range m ty v ≡ true → fit m ty v ≡ v
fit_kept m Bool v h = fit_kept_bool v h
fit_kept m ty v h = kept_by_sign (width_of m ty) (is_signed ty) v (some_bits m ty) h

truth_fits : (b : Test) → fits_unsigned 1 (number_of b) ≡ true
truth_fits true = refl
truth_fits false = refl

-- a converted number is a value of the type
pub fit_in_range : (m : DataModel) (ty : IntType) (v : ℤ) → in_range m ty (fit m ty v) ≡ true
fit_in_range m Bool v = truth_fits (not (is_zero v))
fit_in_range m ty v = fits_by_sign (width_of m ty) (is_signed ty) v (some_bits m ty)

pub fit_idempotent : (m : DataModel) (ty : IntType) (v : ℤ) → fit m ty (fit m ty v) ≡ fit m ty v
fit_idempotent m ty v = fit_kept m ty (fit m ty v) (fit_in_range m ty v)

-- ---- between types

pow_le : (i j : ℕ) → i ≤ j → 2 ^ i ≤ 2 ^ j
pow_le i j h = pow-le-pow_right {n = 2} (omega arith) h

wider : (s t : Test) (a b : ℕ) (v : ℤ) → Holds s a t b → cond s (fits_signed a v) (fits_unsigned a v) ≡ true → cond t (fits_signed b v) (fits_unsigned b v) ≡ true
wider true true a b (pos n) h f = let l = ltb-true n (2 ^ (a - 1)) f in lt-ltb n (2 ^ (b - 1)) (omega (arith, pow_le (a - 1) (b - 1) (omega arith)))
wider true true a b (negsuc n) h f = let l = ltb-true n (2 ^ (a - 1)) f in lt-ltb n (2 ^ (b - 1)) (omega (arith, pow_le (a - 1) (b - 1) (omega arith)))
wider true false a b v h f = absurd h
wider false true a b (pos n) h f = let l = ltb-true n (2 ^ a) f in lt-ltb n (2 ^ (b - 1)) (omega (arith, pow_le a (b - 1) (omega arith)))
wider false true a b (negsuc n) h f = cc
wider false false a b (pos n) h f = let l = ltb-true n (2 ^ a) f in lt-ltb n (2 ^ b) (omega (arith, pow_le a b h))
wider false false a b (negsuc n) h f = f

-- a value of one type is a value of a wider one
pub in_range_wider : (m : DataModel) (s t : IntType) (v : ℤ) → IsWithin m s t → in_range m s v ≡ true → in_range m t v ≡ true
in_range_wider m s t v h f = wider (is_signed s) (is_signed t) (width_of m s) (width_of m t) v h f

-- so its conversion keeps it
pub fit_wider : (m : DataModel) (s t : IntType) (v : ℤ) → IsWithin m s t → in_range m s v ≡ true → fit m t v ≡ v
fit_wider m s t v h f = fit_kept m t v (in_range_wider m s t v h f)

pub IsWithin-promote_of : (m : DataModel) (ty : IntType) → IsWithin m ty (promote_of ty)
IsWithin-promote_of Ilp32 Long = omega arith
IsWithin-promote_of Lp64 Long = omega arith
IsWithin-promote_of Ilp32 ULong = omega arith
IsWithin-promote_of Lp64 ULong = omega arith
IsWithin-promote_of m Bool = omega arith
IsWithin-promote_of m _ = omega arith
