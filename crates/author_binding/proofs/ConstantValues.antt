-- The values of constants.
use Rattle.std.proofs.Common.{◌≡◌, ℕ, suc, ◌^◌, ◌-◌, ◌<◌, Bool, true, false, cond, not, ◌&&◌, pos, negsuc, ℤ, nat_lt, [], Option, Some, refl, ap, ◌∙◌, arith}
use Rattle.std.proofs.lemmas.Bool.Decides.{nat_tests}
use Rattle.c_core.specs.Operators.{apply_one_of, computed, computed_one, judged}
use Rattle.c_core.specs.Tree.{Program}
use Rattle.c_core.specs.Types.{fit, fits_signed, in_range, is_signed, promote_of, residue, signed_of, width_of, wrapped}
use Rattle.c_core.specs.declared.number.BinOp.TheVariants.{Sub}
use Rattle.c_core.specs.declared.number.DataModel.{DataModel}
use Rattle.c_core.specs.declared.number.DataModel.TheVariants.{Ilp32, Lp64}
use Rattle.c_core.specs.declared.number.Done.TheVariants.{Overflow, Value}
use Rattle.c_core.specs.declared.number.IntType.{IntType}
use Rattle.c_core.specs.declared.number.UnOp.TheVariants.{Neg}
use Rattle.c_core.proofs.Fits.{fit_kept}
use Rattle.c_meaning.specs.Value.{and_then, value_of, wrapping}
use Rattle.c_parser.specs.Tree.{Exp}
use Rattle.c_tokens.specs.declared.place.Place.{Place}
use Rattle.check_rules.specs.Constants.{constant_type, valued}
use Rattle.check_rules.specs.Typed.{typed}
use Rattle.author_binding.proofs.ConstantTokens.{least_tree, negative_tree, number_tree}
use Rattle.author_binding.proofs.ConstantTypes.{IsHeld, held}

-- the value of the typed tree, where no name is in scope
abbrev pub value_in : Program → Exp → Option ℤ
value_in p e = value_of p (typed p.model [] [] e) []

pub number_value : (p : Program) (n : ℕ) (decimal unsigned : Bool) (longs : ℕ) (at : Place) →
    value_in p (number_tree n decimal unsigned longs at) ≡ Some (pos n)
number_value p n decimal unsigned longs at = refl

-- ---- negative numbers

wrapping_judged : (m : DataModel) (ty : IntType) (over : Bool) (r : ℤ) →
    wrapping (judged m ty over r) ≡ Some (fit m ty r)
wrapping_judged m ty over r = by (is_signed ty && over)
  where
    by : (b : Bool) → wrapping (cond b (Overflow (fit m ty r)) (Value (fit m ty r))) ≡ Some (fit m ty r)
    by true = refl
    by false = refl

-- a signed type that holds a number holds its negation too
negated_held : (w n : ℕ) → nat_lt (suc n) (2 ^ (w - 1)) ≡ true → nat_lt n (2 ^ (w - 1)) ≡ true
negated_held w n h = grind (arith, nat_tests)

negated_in : (m : DataModel) (ty : IntType) (n : ℕ) →
    is_signed ty ≡ true → in_range m ty (pos (suc n)) ≡ true → in_range m ty (negsuc n) ≡ true
negated_in m ty n signed h =
    let holds : fits_signed (width_of m ty) (pos (suc n)) ≡ true = rw signed at h in
    ap (λ b. cond b (fits_signed (width_of m ty) (negsuc n)) false) signed ∙ negated_held (width_of m ty) n holds

-- the negation of a number in such a type
negated : (m : DataModel) (n : ℕ) (o : Option IntType) → IsHeld m (suc n) o →
    wrapping (computed_one m Neg (valued o) (pos (suc n))) ≡ Some (negsuc n)
negated m n o h =
    let kept : fit m h.ty (pos (suc n)) ≡ pos (suc n) = fit_kept m h.ty (pos (suc n)) h.holds in
    let turned : fit m h.ty (negsuc n) ≡ negsuc n = fit_kept m h.ty (negsuc n) (negated_in m h.ty n h.signed h.holds) in
    ap (λ x. wrapping (computed_one m Neg (valued x) (pos (suc n)))) h.is
    ∙ ap (λ ty. wrapping (apply_one_of m Neg ty (fit m ty (pos (suc n))))) h.promoted
    ∙ ap (λ x. wrapping (apply_one_of m Neg h.ty x)) kept
    ∙ wrapping_judged m h.ty (not (in_range m h.ty (negsuc n))) (negsuc n)
    ∙ ap Some turned

pub negative_value : (p : Program) (n : ℕ) (at : Place) → suc n < 2 ^ 63 →
    value_in p (negative_tree (suc n) at) ≡ Some (negsuc n)
negative_value p n at small =
    negated p.model n (constant_type p.model (suc n) true false 0) (held p.model (suc n) small)

-- ---- the least number

-- the type of a constant without a suffix
abbrev number_type : DataModel → ℕ → IntType
number_type m n = valued (constant_type m n true false 0)

-- that of `-9223372036854775807`
abbrev negative_type : DataModel → IntType
negative_type m = promote_of (number_type m 9223372036854775807)

subtracted : (m : DataModel) →
    wrapping (computed m Sub (negative_type m) (negsuc 9223372036854775806) (number_type m 1) (pos 1))
    ≡ Some (negsuc 9223372036854775807)
unfolding wrapped residue signed_of
subtracted Ilp32 = refl
subtracted Lp64 = refl

pub least_value : (p : Program) (at : Place) → value_in p (least_tree at) ≡ Some (negsuc 9223372036854775807)
least_value p at =
    let less_one : ℤ → Option ℤ =
    λ x. wrapping (computed p.model Sub (negative_type p.model) x (number_type p.model 1) (pos 1)) in
    ap (λ o. and_then o less_one) (negative_value p 9223372036854775806 at (omega arith))
    ∙ subtracted p.model
