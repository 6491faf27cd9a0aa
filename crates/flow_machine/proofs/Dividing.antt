-- What `/` and `%` give where the type has the quotient.
use Rattle.std.proofs.Common.{◌≡◌, ◌≤◌, ◌<◌, ◌^◌, ℤ, pos, negsuc, true, false, refl, ap, sym, ◌∙◌, arith, FitsSigned, unsigned_abs}
use Rattle.std.specs.Int.RustNames.{int_div, int_rem}
use Rattle.std.specs.Int.{Width, IsNonZero}
use mir.Val.{hbits}
use Rattle.std.proofs.lemmas.Int.{rem_below, fits_signed_from_abs}
use Rattle.std.proofs.lemmas.Bool.{ne_eqb}
use Rattle.c_core.specs.Types.{fit, in_range, is_zero}
use Rattle.c_core.specs.Operators.{apply_of, judged}
use Rattle.c_core.specs.declared.number.BinOp.TheVariants.{Div, Rem}
use Rattle.c_core.specs.declared.number.DataModel.TheVariants.{Lp64}
use Rattle.c_core.specs.declared.number.Done.TheVariants.{Value}
use Rattle.flow_code.specs.declared.code.Word.{Word}
use Rattle.flow_code.specs.declared.code.Word.TheVariants.{Signed32, Unsigned32, Signed64, Unsigned64}
use Rattle.flow_code.specs.Words.{type_of_word}
use Rattle.flow_machine.proofs.Exact.{exact_fits, value_kept}

pub not_zero : (w : Width) (b : ℤ) → IsNonZero w b → is_zero b ≡ false
not_zero w (pos n) h = ne_eqb n 0 (λ e. omega (arith, h))
not_zero w (negsuc n) h = refl

-- a quotient that the type has is the value
pub divided : (w : Word) (a b r : ℤ) → is_zero b ≡ false → in_range Lp64 (type_of_word w) (int_div a b) ≡ true → r ≡ int_div a b
    → apply_of Lp64 Div (type_of_word w) a b ≡ Value r
divided w a b r z h e = rw z (exact_fits w (int_div a b) r h e)

unjudged : (w : Word) (s : ℤ) → judged Lp64 (type_of_word w) false s ≡ Value (fit Lp64 (type_of_word w) s)
unjudged Signed32 s = refl
unjudged Unsigned32 s = refl
unjudged Signed64 s = refl
unjudged Unsigned64 s = refl

-- the remainder of such a quotient is the value
pub left_over : (w : Word) (a b r : ℤ) → is_zero b ≡ false → in_range Lp64 (type_of_word w) (int_div a b) ≡ true
    → in_range Lp64 (type_of_word w) (int_rem a b) ≡ true → r ≡ int_rem a b → apply_of Lp64 Rem (type_of_word w) a b ≡ Value r
left_over w a b r z h g e = rw (z, h) (unjudged w (int_rem a b) ∙ value_kept w (int_rem a b) g ∙ ap Value (sym e))

abs_fits : (w : Width) (b : ℤ) → FitsSigned w b → unsigned_abs b ≤ 2 ^ hbits w
abs_fits w (pos n) f = omega (arith, f.sfits)
abs_fits w (negsuc n) f = f.sfits

abs_nonzero : (w : Width) (b : ℤ) → IsNonZero w b → 0 < unsigned_abs b
abs_nonzero w (pos n) h = h
abs_nonzero w (negsuc n) h = omega arith

-- a remainder is a number of the divisor's type
pub remainder_fits : (w : Width) (a b : ℤ) → FitsSigned w b → IsNonZero w b → FitsSigned w (int_rem a b)
remainder_fits w a b f h =
    let l = rem_below a b (abs_nonzero w b h) in
    fits_signed_from_abs w (int_rem a b) (omega (arith, l, abs_fits w b f))
