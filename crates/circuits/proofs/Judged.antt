-- From the number, the overflow bit and the undefined bit of a circuit to what its operator gives.
use Rattle.std.proofs.Common.{◌≡◌, ℕ, Bool, true, false, cond, not, ◌&&◌, ℤ, List, refl, sym, ◌∙◌, ap, subst}
use Rattle.c_core.specs.Types.{width_of, is_signed, promote_of, residue, fit, wrapped}
use Rattle.c_core.specs.Operators.{judged}
use Rattle.c_core.specs.declared.number.DataModel.{DataModel}
use Rattle.c_core.specs.declared.number.IntType.{IntType}
use Rattle.c_core.specs.declared.number.IntType.TheVariants.{Bool as BoolType, Char, SChar, UChar, Short, UShort, Int, UInt, Long, ULong, LongLong, ULongLong}
use Rattle.c_core.specs.declared.number.Done.{Done}
use Rattle.c_core.specs.declared.number.Done.TheVariants.{Value, Overflow, Undefined}
use Rattle.circuits.specs.declared.net.NetNode.{NetNode}
use Rattle.circuits.specs.declared.bits.Outcome.{Outcome}
use Rattle.circuits.specs.Net.{Means}
use Rattle.circuits.specs.Numbers.{number, read, typed, AreTyped}
use Rattle.circuits.specs.Outcome.{Gives, HasValue, overflowed, undefined}

-- conversion to a type other than `_Bool`
pub fit_is : (m : DataModel) (ty : IntType) (z : ℤ) → promote_of ty ≡ ty → fit m ty z ≡ read (width_of m ty) (is_signed ty) (residue (width_of m ty) z)
unfolding wrapped
fit_is m BoolType z p = cc
fit_is m Char z p = refl
fit_is m SChar z p = refl
fit_is m UChar z p = refl
fit_is m Short z p = refl
fit_is m UShort z p = refl
fit_is m Int z p = refl
fit_is m UInt z p = refl
fit_is m Long z p = refl
fit_is m ULong z p = refl
fit_is m LongLong z p = refl
fit_is m ULongLong z p = refl

has_judged : (b : Bool) (f z : ℤ) → z ≡ f → HasValue (cond b (Overflow f) (Value f)) z
has_judged true f z e = e
has_judged false f z e = e

over_judged : (b : Bool) (f : ℤ) → b ≡ overflowed (cond b (Overflow f) (Value f))
over_judged true f = refl
over_judged false f = refl

undefined_judged : (b : Bool) (f : ℤ) → false ≡ undefined (cond b (Overflow f) (Value f))
undefined_judged true f = refl
undefined_judged false f = refl

has_partial : (u : Bool) (d : Done) (z : ℤ) → (u ≡ false → HasValue d z) → HasValue (cond u Undefined d) z
has_partial true d z h = tt
has_partial false d z h = h refl

over_partial : (u o : Bool) (d : Done) → o ≡ overflowed d → (not u && o) ≡ overflowed (cond u Undefined d)
over_partial true o d e = refl
over_partial false o d e = e

undefined_partial : (u : Bool) (d : Done) → false ≡ undefined d → u ≡ undefined (cond u Undefined d)
undefined_partial true d e = refl
undefined_partial false d e = e

-- an operator that is undefined where u says so, and else judged by its whole-number result
pub gives_partial : {m : DataModel} {ty : IntType} {net : List NetNode} {o : Outcome} {u : (ℕ → Bool) → Bool} (over : (ℕ → Bool) → Bool) (r : (ℕ → Bool) → ℤ)
    → promote_of ty ≡ ty → AreTyped m ty net o.value.bits
    → ((v : ℕ → Bool) → u v ≡ false → number v net o.value.bits ≡ residue (width_of m ty) (r v))
    → Means net o.overflow (λ v. not (u v) && (is_signed ty && over v)) → Means net o.undefined u
    → Gives m ty net o (λ v. cond (u v) Undefined (judged m ty (over v) (r v)))
gives_partial {m} {ty} {net} {o} {u} over r p t is over_means undefined_means = record {
  value = t;
  overflow = over_means.inside;
  undefined_in = undefined_means.inside;
  value_is = λ v. has_partial (u v) (judged m ty (over v) (r v)) (typed m ty v net o.value.bits)
      (λ h. has_judged (is_signed ty && over v) (fit m ty (r v)) (typed m ty v net o.value.bits) (ap (read (width_of m ty) (is_signed ty)) (is v h) ∙ sym (fit_is m ty (r v) p)));
  overflow_is = λ v. over_means.is v ∙ over_partial (u v) (is_signed ty && over v) (judged m ty (over v) (r v)) (over_judged (is_signed ty && over v) (fit m ty (r v)));
  undefined_is = λ v. undefined_means.is v ∙ undefined_partial (u v) (judged m ty (over v) (r v)) (undefined_judged (is_signed ty && over v) (fit m ty (r v)));
}

-- the same of an operator that is never undefined
pub gives_judged : {m : DataModel} {ty : IntType} {net : List NetNode} {o : Outcome} (over : (ℕ → Bool) → Bool) (r : (ℕ → Bool) → ℤ)
    → promote_of ty ≡ ty → AreTyped m ty net o.value.bits
    → ((v : ℕ → Bool) → number v net o.value.bits ≡ residue (width_of m ty) (r v))
    → Means net o.overflow (λ v. is_signed ty && over v) → Means net o.undefined (λ v. false)
    → Gives m ty net o (λ v. judged m ty (over v) (r v))
gives_judged {m} {ty} {net} {o} over r p t is over_means undefined_means =
    gives_partial {u = λ v. false} over r p t (λ v h. is v) over_means undefined_means

pub gives_same : {m : DataModel} {ty : IntType} {net : List NetNode} {o : Outcome} {d e : (ℕ → Bool) → Done} → Gives m ty net o d → ((v : ℕ → Bool) → d v ≡ e v) → Gives m ty net o e
gives_same {m} {ty} {net} {o} {d} {e} g h = record {
  value = g.value;
  overflow = g.overflow;
  undefined_in = g.undefined_in;
  value_is = λ v. subst (λ x. HasValue x (typed m ty v net o.value.bits)) (h v) (g.value_is v);
  overflow_is = λ v. g.overflow_is v ∙ ap overflowed (h v);
  undefined_is = λ v. g.undefined_is v ∙ ap undefined (h v);
}

-- a value alone
pub judged_never : (m : DataModel) (ty : IntType) (r : ℤ) → judged m ty false r ≡ Value (fit m ty r)
judged_never m ty r = elim (is_signed ty) as (λ s. cond (s && false) (Overflow (fit m ty r)) (Value (fit m ty r)) ≡ Value (fit m ty r)) [ true ↦ refl | false ↦ refl ]
