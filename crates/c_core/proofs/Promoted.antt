-- Promoted types: their widths and signs determine what operators give.
use Rattle.std.proofs.Common.{◌≡◌, true, false, ℤ, pos, negsuc, unsigned_abs, FitsSigned, refl, sym, ◌∙◌}
use Rattle.std.specs.Int.{Width}
use mir.Val.{bits}
use Rattle.c_core.proofs.SignedOperators.{fits_from}
use Rattle.c_core.specs.Types.{width_of, is_signed, in_range, fit, wrapped, promote_of, IsPromoted}
use Rattle.c_core.specs.Operators.{apply_of}
use Rattle.c_core.specs.declared.number.IntType.{IntType}
use Rattle.c_core.specs.declared.number.IntType.TheVariants.{Bool, Char, SChar, UChar, Short, UShort, Int, UInt, Long, ULong, LongLong, ULongLong}
use Rattle.c_core.specs.declared.number.DataModel.{DataModel}
use Rattle.c_core.specs.declared.number.DataModel.TheVariants.{Ilp32, Lp64}
use Rattle.c_core.specs.declared.number.BinOp.{BinOp}
use Rattle.c_core.specs.declared.number.BinOp.TheVariants.{Lt, Le, Gt, Ge, Eq, Ne}

pub IsPromoted-promote_of : (ty : IntType) → IsPromoted (promote_of ty)
IsPromoted-promote_of Bool = refl
IsPromoted-promote_of _ = refl

pub fit_promoted : (m : DataModel) (ty : IntType) (v : ℤ) → IsPromoted ty → fit m ty v ≡ wrapped (width_of m ty) (is_signed ty) v
fit_promoted m Bool v p = cc
fit_promoted m _ v p = refl

pub wide : (m : DataModel) (ty : IntType) → IsPromoted ty → (width_of m ty ≡ 32 → ⊥) → width_of m ty ≡ 64
wide m Bool p h = cc
wide m Char p h = cc
wide m SChar p h = cc
wide m UChar p h = cc
wide m Short p h = cc
wide m UShort p h = cc
wide m Int p h = absurd (h refl)
wide m UInt p h = absurd (h refl)
wide Ilp32 Long p h = absurd (h refl)
wide Lp64 Long p h = refl
wide Ilp32 ULong p h = absurd (h refl)
wide Lp64 ULong p h = refl
wide m LongLong p h = refl
wide m ULongLong p h = refl

fit_alike : (m n : DataModel) (s t : IntType) (v : ℤ) → IsPromoted s → IsPromoted t → width_of m s ≡ width_of n t → is_signed s ≡ is_signed t → fit m s v ≡ fit n t v
fit_alike m n s t v p q w i = fit_promoted m s v p ∙ rw (w, i) (sym (fit_promoted n t v q))

pub alike : (m n : DataModel) (s t : IntType) (op : BinOp) (a b : ℤ) → IsPromoted s → IsPromoted t → width_of m s ≡ width_of n t → is_signed s ≡ is_signed t
    → apply_of m op s a b ≡ apply_of n op t a b
alike m n s t Lt a b p q w i = refl
alike m n s t Le a b p q w i = refl
alike m n s t Gt a b p q w i = refl
alike m n s t Ge a b p q w i = refl
alike m n s t Eq a b p q w i = refl
alike m n s t Ne a b p q w i = refl
alike m n s t _ a b p q w i =
    let f : (v : ℤ) → fit m s v ≡ fit n t v = λ v. fit_alike m n s t v p q w i in
    simp (w, i, f)

pub in_range_signed : (w : Width) (m : DataModel) (ty : IntType) (v : ℤ) → is_signed ty ≡ true → width_of m ty ≡ bits w → in_range m ty v ≡ true → FitsSigned w v
in_range_signed w m ty v i e h = fits_from w v (rw (i, e) at h)

pub in_range_unsigned : (m : DataModel) (ty : IntType) (v : ℤ) → is_signed ty ≡ false → in_range m ty v ≡ true → pos (unsigned_abs v) ≡ v
in_range_unsigned m ty (pos n) i h = refl
in_range_unsigned m ty (negsuc n) i h = let e : false ≡ true = rw i at h in cc
