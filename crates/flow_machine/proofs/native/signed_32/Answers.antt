use Rattle.std.proofs.Common.{rules, arith, ap, ◌∙◌, FitsSigned, bit_and, bit_or, bit_xor, ◌+ℤ◌, ◌-ℤ◌, ◌*ℤ◌, sym}
use Rattle.std.specs.Int.RustNames.{int_div, int_rem}
use Rattle.std.specs.Int.{w32, w128, cast_unsigned}
use Rattle.std.proofs.lemmas.Int.{to_z-of_z}
use Rattle.std.proofs.lemmas.Nat.{and_le_l, or_lt, xor_lt}
use Rattle.flow_code.specs.declared.code.Word.TheVariants.{Signed32}
use Rattle.c_core.specs.declared.number.Done.TheVariants.{Value}
use Rattle.c_core.proofs.SignedOperators.{digits_below, bits_is, fits_is}
use Rattle.flow_machine.proofs.Exact.{exact_fits}
use Rattle.flow_machine.proofs.Dividing.{not_zero, divided, left_over, remainder_fits}
use Rattle.flow_machine.proofs.native.signed_32.Goals as goal

pub returns-in-Some : goal.returns-in-Some
returns-in-Some c =
    let fa = c.ranges.a in
    let fb = c.ranges.b in
    let f : FitsSigned w128 c.from.result = search rules in
    let h = simp to_z-of_z at c.in-Some.ensures in
    let fr : FitsSigned w32 c.in-Some.r = rw h.1 h.0 in
    rw c.in-Add.is (exact_fits Signed32 (c.args.a +ℤ c.args.b) _ (fits_is w32 (c.args.a +ℤ c.args.b) h.0) (to_z-of_z w128 _ f ∙ c.from.ensures ∙ to_z-of_z w32 _ fr ∙ h.1))

pub returns-in-Some-checked_sub : goal.returns-in-Some-checked_sub
returns-in-Some-checked_sub c =
    let fa = c.ranges.a in
    let fb = c.ranges.b in
    let f : FitsSigned w128 c.from-in-Some-checked_sub.result = search rules in
    let h = simp to_z-of_z at c.in-Some-checked_sub.ensures in
    let fr : FitsSigned w32 c.in-Some-checked_sub.r = rw h.1 h.0 in
    rw c.in-Sub.is (exact_fits Signed32 (c.args.a -ℤ c.args.b) _ (fits_is w32 (c.args.a -ℤ c.args.b) h.0) (to_z-of_z w128 _ f ∙ c.from-in-Some-checked_sub.ensures ∙ to_z-of_z w32 _ fr ∙ h.1))

pub returns-in-Some-checked_mul : goal.returns-in-Some-checked_mul
returns-in-Some-checked_mul c =
    let fa = c.ranges.a in
    let fb = c.ranges.b in
    let f : FitsSigned w128 c.from-in-Some-checked_mul.result = search rules in
    let h = simp to_z-of_z at c.in-Some-checked_mul.ensures in
    let fr : FitsSigned w32 c.in-Some-checked_mul.r = rw h.1 h.0 in
    rw c.in-Mul.is (exact_fits Signed32 (c.args.a *ℤ c.args.b) _ (fits_is w32 (c.args.a *ℤ c.args.b) h.0) (to_z-of_z w128 _ f ∙ c.from-in-Some-checked_mul.ensures ∙ to_z-of_z w32 _ fr ∙ h.1))

pub returns-in-And : goal.returns-in-And
returns-in-And c =
    let fa = c.ranges.a in
    let fb = c.ranges.b in
    let f : FitsSigned w128 c.from-in-And.result = search rules in
    rw c.in-And.is (ap Value (sym (to_z-of_z w128 _ f ∙ c.from-in-And.ensures ∙ bits_is w32 bit_and c.args.a c.args.b fa fb (omega (arith, digits_below w32 c.args.a fa, and_le_l (cast_unsigned w32 c.args.a) (cast_unsigned w32 c.args.b))))))

pub returns-in-Xor : goal.returns-in-Xor
returns-in-Xor c =
    let fa = c.ranges.a in
    let fb = c.ranges.b in
    let f : FitsSigned w128 c.from-in-Xor.result = search rules in
    rw c.in-Xor.is (ap Value (sym (to_z-of_z w128 _ f ∙ c.from-in-Xor.ensures ∙ bits_is w32 bit_xor c.args.a c.args.b fa fb (xor_lt 32 _ _ (digits_below w32 c.args.a fa) (digits_below w32 c.args.b fb)))))

pub returns-in-Or : goal.returns-in-Or
returns-in-Or c =
    let fa = c.ranges.a in
    let fb = c.ranges.b in
    let f : FitsSigned w128 c.from-in-Or.result = search rules in
    rw c.in-Or.is (ap Value (sym (to_z-of_z w128 _ f ∙ c.from-in-Or.ensures ∙ bits_is w32 bit_or c.args.a c.args.b fa fb (or_lt 32 _ _ (digits_below w32 c.args.a fa) (digits_below w32 c.args.b fb)))))

pub returns-in-Some-checked_div : goal.returns-in-Some-checked_div
returns-in-Some-checked_div c =
    let fa = c.ranges.a in
    let fb = c.ranges.b in
    let f : FitsSigned w128 c.from-in-Some-checked_div.result = search rules in
    let h = simp to_z-of_z at c.in-Some-checked_div.ensures in
    let fr : FitsSigned w32 c.in-Some-checked_div.r = rw h.1 h.0.1 in
    rw c.in-Div.is
    (divided Signed32 c.args.a c.args.b _ (not_zero w32 c.args.b h.0.0) (fits_is w32 (int_div c.args.a c.args.b) h.0.1)
    (to_z-of_z w128 _ f ∙ c.from-in-Some-checked_div.ensures ∙ to_z-of_z w32 _ fr ∙ h.1))

pub returns-in-Some-checked_rem : goal.returns-in-Some-checked_rem
returns-in-Some-checked_rem c =
    let fa = c.ranges.a in
    let fb = c.ranges.b in
    let f : FitsSigned w128 c.from-in-Some-checked_rem.result = search rules in
    let h = simp to_z-of_z at c.in-Some-checked_rem.ensures in
    let g = remainder_fits w32 c.args.a c.args.b fb h.0.0 in
    let fr : FitsSigned w32 c.in-Some-checked_rem.r = rw h.1 g in
    rw c.in-Rem.is
    (left_over Signed32 c.args.a c.args.b _ (not_zero w32 c.args.b h.0.0) (fits_is w32 (int_div c.args.a c.args.b) h.0.1)
    (fits_is w32 (int_rem c.args.a c.args.b) g) (to_z-of_z w128 _ f ∙ c.from-in-Some-checked_rem.ensures ∙ to_z-of_z w32 _ fr ∙ h.1))
