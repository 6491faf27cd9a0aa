-- What an operator gives where the type has its exact result.
use Rattle.std.proofs.Common.{◌≡◌, ℤ, true, refl, ap, sym, ◌∙◌}
use Rattle.c_core.specs.Types.{fit, in_range}
use Rattle.c_core.specs.Operators.{exact}
use Rattle.c_core.specs.declared.number.DataModel.TheVariants.{Lp64}
use Rattle.c_core.specs.declared.number.Done.TheVariants.{Value}
use Rattle.c_core.proofs.Fits.{fit_kept}
use Rattle.flow_code.specs.declared.code.Word.{Word}
use Rattle.flow_code.specs.declared.code.Word.TheVariants.{Signed32, Unsigned32, Signed64, Unsigned64}
use Rattle.flow_code.specs.Words.{type_of_word}

pub value_kept : (w : Word) (r : ℤ) → in_range Lp64 (type_of_word w) r ≡ true → Value (fit Lp64 (type_of_word w) r) ≡ Value r
value_kept w r h = ap Value (fit_kept Lp64 (type_of_word w) r h)

by_range : (w : Word) (r : ℤ) → in_range Lp64 (type_of_word w) r ≡ true → exact Lp64 (type_of_word w) r ≡ Value (fit Lp64 (type_of_word w) r)
by_range Signed32 r h = rw h refl
by_range Unsigned32 r h = refl
by_range Signed64 r h = rw h refl
by_range Unsigned64 r h = refl

-- an exact result that the type has is the value
pub exact_fits : (w : Word) (s r : ℤ) → in_range Lp64 (type_of_word w) s ≡ true → r ≡ s → exact Lp64 (type_of_word w) s ≡ Value r
exact_fits w s r h e = by_range w s h ∙ value_kept w s h ∙ ap Value (sym e)
