use Rattle.std.proofs.Common.{rules, arith, ap, ◌∙◌, pos, FitsSigned, ◌^◌, bit_and, bit_or, bit_xor, ◌+ℤ◌, ◌-ℤ◌, ◌*ℤ◌}
use Rattle.std.specs.Int.{w64, w128, cast_unsigned}
use Rattle.std.specs.Int.RustNames.{int_div, int_rem}
use Rattle.std.proofs.lemmas.Int.{wraps, to_z-of_z}
use Rattle.std.proofs.lemmas.Nat.{and_le_l, or_lt, xor_lt}
use Rattle.c_core.specs.declared.number.Done.TheVariants.{Value}
use Rattle.c_core.proofs.SignedOperators.{digits_below, told, over_is, over_quotient, quotient_wraps, remainder_wraps, not_zero, bits_is, counted_is, count_below, shifted_left, shifted_right, leaves_range}
use Rattle.c_core.proofs.operate.operate_i64.Goals as goal

pub returns-in-Add : goal.returns-in-Add
returns-in-Add c =
    let fa = c.ranges.a in
    let fc = c.ranges.b in
    let fb : FitsSigned w64 c.args.b = search rules in
    rw c.in-Add.is (told w64 (c.args.a +ℤ c.args.b) _ _ _ _ c.judge.ensures (search (rules, wraps, to_z-of_z)) (over_is w64 _ _ (simp to_z-of_z at c.overflowing_add-r.ensures.overflow)))

pub returns-in-Sub : goal.returns-in-Sub
returns-in-Sub c =
    let fa = c.ranges.a in
    let fc = c.ranges.b in
    let fb : FitsSigned w64 c.args.b = search rules in
    rw c.in-Sub.is (told w64 (c.args.a -ℤ c.args.b) _ _ _ _ c.judge-in-Sub.ensures (search (rules, wraps, to_z-of_z)) (over_is w64 _ _ (simp to_z-of_z at c.overflowing_sub-r.ensures.overflow)))

pub returns-in-Mul : goal.returns-in-Mul
returns-in-Mul c =
    let fa = c.ranges.a in
    let fc = c.ranges.b in
    let fb : FitsSigned w64 c.args.b = search rules in
    rw c.in-Mul.is (told w64 (c.args.a *ℤ c.args.b) _ _ _ _ c.judge-in-Mul.ensures (search (rules, wraps, to_z-of_z)) (over_is w64 _ _ (simp to_z-of_z at c.overflowing_mul-r.ensures.overflow)))

pub returns-else-b-eq0 : goal.returns-else-b-eq0
returns-else-b-eq0 c =
    let fa = c.ranges.a in
    let fc = c.ranges.b in
    let fb : FitsSigned w64 c.args.b = search rules in
    let z = c.if-b-eq0.false in
    rw (c.in-Div.is, not_zero c.args.b z)
    (told w64 (int_div c.args.a c.args.b) _ _ _ _ c.judge-in-Div.ensures (search (rules, to_z-of_z, quotient_wraps))
    (over_quotient w64 c.args.a c.args.b _ _ _ fb z (simp to_z-of_z at c.checked_div.ensures) c.is_none-over.ensures))

pub returns-else-b-eq0-2 : goal.returns-else-b-eq0-2
returns-else-b-eq0-2 c =
    let fa = c.ranges.a in
    let fc = c.ranges.b in
    let fb : FitsSigned w64 c.args.b = search rules in
    let z = c.if-b-eq0-2.false in
    rw (c.in-Rem.is, not_zero c.args.b z)
    (told w64 (int_rem c.args.a c.args.b) _ _ _ _ c.judge-in-Rem.ensures (search (rules, to_z-of_z, remainder_wraps))
    (over_quotient w64 c.args.a c.args.b _ _ _ fb z (simp to_z-of_z at c.checked_rem.ensures) c.is_none-over-in-Rem.ensures))

pub returns-in-Some : goal.returns-in-Some
returns-in-Some c =
    let fa = c.ranges.a in
    let fc = c.ranges.b in
    let f : FitsSigned w128 c.from-in-Some.result = search rules in
    let m = simp to_z-of_z at c.in-Some.ensures in
    let h = count_below c.args.b c.in-Some.k 64 m.0.0 m.0.1 m.1 in
    let e = simp to_z-of_z at c.leading_zeros.ensures in
    rw (c.in-Shl.is, counted_is c.args.b 64 m.0.0 m.0.1, ← m.1)
    (told w64 (c.args.a *ℤ pos (2 ^ c.in-Some.k)) _ _ _ _ c.judge-in-Some.ensures
    (to_z-of_z w128 _ f ∙ c.from-in-Some.ensures ∙ shifted_left w64 c.args.a c.in-Some.k fa h)
    (rw e (leaves_range w64 c.args.a c.in-Some.k fa h)))

pub returns-in-Some-places : goal.returns-in-Some-places
returns-in-Some-places c =
    let fa = c.ranges.a in
    let fc = c.ranges.b in
    let f : FitsSigned w128 c.from-in-Some-places.result = search rules in
    let m = simp to_z-of_z at c.in-Some-places.ensures in
    rw (c.in-Shr.is, counted_is c.args.b 64 m.0.0 m.0.1, ← m.1)
    (ap Value (shifted_right w64 c.args.a _ c.in-Some-places.k fa (to_z-of_z w128 _ f ∙ (simp to_z-of_z at c.from-in-Some-places.ensures))))

pub returns-in-And : goal.returns-in-And
returns-in-And c =
    let fa = c.ranges.a in
    let fc = c.ranges.b in
    let fb : FitsSigned w64 c.args.b = search rules in
    let f : FitsSigned w128 c.from-in-And.result = search rules in
    rw c.in-And.is (ap Value (to_z-of_z w128 _ f ∙ (simp to_z-of_z at c.from-in-And.ensures) ∙ bits_is w64 bit_and c.args.a c.args.b fa fb (omega (arith, digits_below w64 c.args.a fa, and_le_l (cast_unsigned w64 c.args.a) (cast_unsigned w64 c.args.b)))))

pub returns-in-Xor : goal.returns-in-Xor
returns-in-Xor c =
    let fa = c.ranges.a in
    let fc = c.ranges.b in
    let fb : FitsSigned w64 c.args.b = search rules in
    let f : FitsSigned w128 c.from-in-Xor.result = search rules in
    rw c.in-Xor.is (ap Value (to_z-of_z w128 _ f ∙ (simp to_z-of_z at c.from-in-Xor.ensures) ∙ bits_is w64 bit_xor c.args.a c.args.b fa fb (xor_lt 64 _ _ (digits_below w64 c.args.a fa) (digits_below w64 c.args.b fb))))

pub returns-in-Or : goal.returns-in-Or
returns-in-Or c =
    let fa = c.ranges.a in
    let fc = c.ranges.b in
    let fb : FitsSigned w64 c.args.b = search rules in
    let f : FitsSigned w128 c.from-in-Or.result = search rules in
    rw c.in-Or.is (ap Value (to_z-of_z w128 _ f ∙ (simp to_z-of_z at c.from-in-Or.ensures) ∙ bits_is w64 bit_or c.args.a c.args.b fa fb (or_lt 64 _ _ (digits_below w64 c.args.a fa) (digits_below w64 c.args.b fb))))
