-- Values of bits: nothing changes but the net.
use Rattle.std.proofs.Common.{◌≡◌, ℕ, ◌+◌, ◌*◌, Bool, true, false, cond, ℤ, pos, List, [], ◌∷◌, length, get_or, refl, ◌∙◌, ap, subst, arith}
use Rattle.std.proofs.lemmas.List.Elements.{All-get_or}
use Rattle.c_core.specs.Tree.{Program}
use Rattle.c_core.specs.Types.{width_of, is_signed, fit, number_of}
use Rattle.c_core.specs.declared.number.IntType.{IntType}
use Rattle.c_core.specs.declared.number.IntType.TheVariants.{Bool as BoolType, Int}
use Rattle.c_core.specs.declared.number.DataModel.{DataModel}
use Rattle.c_core.proofs.Fits.{fit_kept}
use Rattle.circuits.specs.declared.net.Bit.{Bit}
use Rattle.circuits.specs.declared.net.NetNode.{NetNode}
use Rattle.circuits.specs.Net.{holds, Grown, IsIn}
use Rattle.circuits.specs.Numbers.{number, digit, read, typed, AreTyped, Counts, Reads}
use Rattle.sym_state.specs.declared.state.Sym.{Sym}
use Rattle.sym_state.specs.Standing.{IsState, Turned}
use Rattle.sym_state.proofs.Nets.{added_of, state_grown, stand_grown}
use Rattle.sym_values.specs.Valuing.{Reckoned, Decided}

-- a larger net
pub net_turned : {k : ℕ} (p : Program) (s : Sym) (net : List NetNode) → IsState p s → Grown k s.net net → Turned p k 0 s (record s { net = net }) (λ v z. z)
net_turned p s net h g = record { fits = state_grown p g h; added = added_of g; level = refl; result = refl; is = λ v. stand_grown p v g h }

pub reckoned : {k : ℕ} (p : Program) (s : Sym) (net : List NetNode) (ty : IntType) (bits : List Bit) (f : (ℕ → Bool) → ℤ) → IsState p s → Grown k s.net net → Reads p.model ty net bits f
    → Reckoned p k s (record s { net = net }) ty bits f
reckoned p s net ty bits f h g r = record { turned = net_turned p s net h g; bits_in = r.bits_in; is = r.is }

-- the one digit of a truth value
digit_is : (a b : Bool) → pos (digit a + 2 * 0) ≡ number_of b → a ≡ b
digit_is true true e = refl
digit_is false false e = refl
digit_is true false e = cc
digit_is false true e = cc

first_bit : (v : ℕ → Bool) (net : List NetNode) (bits : List Bit) (d : Bit) (t : Bool) → length bits ≡ 1 → pos (number v net bits) ≡ number_of t → holds v net (get_or bits 0 d) ≡ t
unfolding number
first_bit v net [] d t w e = absurd (omega (arith, w))
first_bit v net (b ∷ []) d t w e = digit_is (holds v net b) t e
first_bit v net (b ∷ c ∷ bs) d t w e = absurd (omega (arith, w))

pub decided : {k : ℕ} (p : Program) (s : Sym) (net : List NetNode) (bits : List Bit) (d r : Bit) (f : (ℕ → Bool) → Bool) → IsState p s → Grown k s.net net → Reads p.model BoolType net bits (λ v. number_of (f v)) → r ≡ get_or bits 0 d
    → Decided p k s (record s { net = net }) r f
decided p s net bits d r f h g m e = record { turned = net_turned p s net h g; means = record { inside = rw e (All-get_or (IsIn net) bits 0 d (omega (arith, m.bits_in.wide)) m.bits_in.inside); is = λ v. ap (holds v net) e ∙ first_bit v net bits d (f v) m.bits_in.wide (m.is v) } }

kept_truth : (m : DataModel) (t : Bool) → fit m Int (number_of t) ≡ number_of t
kept_truth m true = fit_kept m Int (pos 1) refl
kept_truth m false = fit_kept m Int (pos 0) refl

one_digit : (v : ℕ → Bool) (net : List NetNode) (b : Bit) → pos (number v net (b ∷ [])) ≡ number_of (holds v net b)
unfolding number
one_digit v net b = by_case (holds v net b)
  where
    by_case : (t : Bool) → pos (digit t + 2 * 0) ≡ number_of t
    by_case true = refl
    by_case false = refl

-- a truth value as a number
pub truth_reckoned : (p : Program) (s : Sym) (net : List NetNode) (b : Bit) (one bits : List Bit) → IsState p s → IsIn s.net b → one ≡ b ∷ [] → Grown 0 s.net net
    → Reads p.model Int net bits (λ v. fit p.model Int (typed p.model BoolType v s.net one)) → Reckoned p 0 s (record s { net = net }) Int bits (λ v. number_of (holds v s.net b))
truth_reckoned p s net b one bits h i e g r = record {
  turned = net_turned p s net h g;
  bits_in = r.bits_in;
  is = λ v. r.is v ∙ ap (λ z. fit p.model Int (typed p.model BoolType v s.net z)) e ∙ ap (fit p.model Int) (one_digit v s.net b) ∙ kept_truth p.model (holds v s.net b);
}

either_read : (w : ℕ) (s t : Bool) (x y : ℕ) → read w s (cond t x y) ≡ cond t (read w s x) (read w s y)
either_read w s true x y = refl
either_read w s false x y = refl

pub choice_reckoned : (p : Program) (s : Sym) (net : List NetNode) (ty : IntType) (t : Bit) (xs ys bits : List Bit) → IsState p s → AreTyped p.model ty s.net xs → Grown (4 * length xs) s.net net
    → Counts net bits (length xs) (λ v. cond (holds v s.net t) (number v s.net xs) (number v s.net ys))
    → Reckoned p (4 * width_of p.model ty) s (record s { net = net }) ty bits (λ v. cond (holds v s.net t) (typed p.model ty v s.net xs) (typed p.model ty v s.net ys))
choice_reckoned p s net ty t xs ys bits h iy g c = record {
  turned = net_turned p s net h (subst (λ n. Grown (4 * n) s.net net) iy.wide g);
  bits_in = record { inside = c.inside; wide = c.wide ∙ iy.wide };
  is = λ v. ap (read (width_of p.model ty) (is_signed ty)) (c.is v) ∙ either_read (width_of p.model ty) (is_signed ty) (holds v s.net t) (number v s.net xs) (number v s.net ys);
}
