use Rattle.std.proofs.Common.{rules, arith, ap, ◌∙◌, ◌<◌, pos, unsigned_abs, FitsSigned, ◌^◌, bit_and, bit_or, bit_xor}
use Rattle.std.specs.Int.{w32, w128, FitsUnsigned}
use Rattle.std.proofs.lemmas.Int.{to_z-of_z}
use Rattle.std.proofs.lemmas.Nat.{and_le_l, or_lt, xor_lt}
use Rattle.c_core.specs.declared.number.Done.TheVariants.{Value}
use Rattle.c_core.proofs.SignedOperators.{not_zero, counted_is}
use Rattle.c_core.proofs.UnsignedOperators.{below, sum, product, difference, quotient, remainder, bits_of, left, right}
use Rattle.c_core.proofs.operate.operate_u32.Goals as goal

pub returns-in-Add : goal.returns-in-Add
returns-in-Add c =
    let fc = c.ranges.b in
    let fb : FitsUnsigned w32 c.args.b = search rules in
    let f : FitsSigned w128 c.from.result = search rules in
    let e = simp to_z-of_z at c.overflowing_add-r.ensures.value in
    rw c.in-Add.is (c.judge.ensures ∙ ap Value (to_z-of_z w128 _ f ∙ c.from.ensures ∙ ap pos e ∙ sum w32 c.args.a c.args.b fb))

pub returns-in-Sub : goal.returns-in-Sub
returns-in-Sub c =
    let fc = c.ranges.b in
    let fb : FitsUnsigned w32 c.args.b = search rules in
    let f : FitsSigned w128 c.from-in-Sub.result = search rules in
    let l : c.overflowing_sub-r.result.0 < 2 ^ 32 = search rules in
    let e = simp to_z-of_z at c.overflowing_sub-r.ensures.value in
    rw c.in-Sub.is (c.judge-in-Sub.ensures ∙ ap Value (to_z-of_z w128 _ f ∙ c.from-in-Sub.ensures ∙ difference w32 c.args.a _ c.args.b fb l c.ranges.a.fits e))

pub returns-in-Mul : goal.returns-in-Mul
returns-in-Mul c =
    let fc = c.ranges.b in
    let fb : FitsUnsigned w32 c.args.b = search rules in
    let f : FitsSigned w128 c.from-in-Mul.result = search rules in
    let e = simp to_z-of_z at c.overflowing_mul-r.ensures.value in
    rw c.in-Mul.is (c.judge-in-Mul.ensures ∙ ap Value (to_z-of_z w128 _ f ∙ c.from-in-Mul.ensures ∙ ap pos e ∙ product w32 c.args.a c.args.b fb))

pub returns-else-b-eq0 : goal.returns-else-b-eq0
returns-else-b-eq0 c =
    let fc = c.ranges.b in
    let fb : FitsUnsigned w32 c.args.b = search rules in
    let f : FitsSigned w128 c.from-in-Div.result = search rules in
    let e = simp to_z-of_z at c.wrapping_div.ensures in
    rw (c.in-Div.is, not_zero c.args.b c.if-b-eq0.false) (c.judge-in-Div.ensures ∙ ap Value (to_z-of_z w128 _ f ∙ c.from-in-Div.ensures ∙ ap pos e ∙ quotient w32 c.args.a c.args.b fb c.ranges.a.fits))

pub returns-else-b-eq0-2 : goal.returns-else-b-eq0-2
returns-else-b-eq0-2 c =
    let fc = c.ranges.b in
    let fb : FitsUnsigned w32 c.args.b = search rules in
    let f : FitsSigned w128 c.from-in-Rem.result = search rules in
    let e = simp to_z-of_z at c.wrapping_rem.ensures in
    rw (c.in-Rem.is, not_zero c.args.b c.if-b-eq0-2.false) (c.judge-in-Rem.ensures ∙ ap Value (to_z-of_z w128 _ f ∙ c.from-in-Rem.ensures ∙ ap pos e ∙ remainder w32 c.args.a c.args.b fb c.ranges.a.fits))

pub returns-in-Some : goal.returns-in-Some
returns-in-Some c =
    let fc = c.ranges.b in
    let f : FitsSigned w128 c.from-in-Some.result = search rules in
    let m = simp to_z-of_z at c.in-Some.ensures in
    rw (c.in-Shl.is, counted_is c.args.b 32 m.0.0 m.0.1, ← m.1) (c.judge-in-Some.ensures ∙ ap Value (to_z-of_z w128 _ f ∙ c.from-in-Some.ensures ∙ left w32 c.args.a c.in-Some.k))

pub returns-in-Some-places : goal.returns-in-Some-places
returns-in-Some-places c =
    let fc = c.ranges.b in
    let f : FitsSigned w128 c.from-in-Some-places.result = search rules in
    let m = simp to_z-of_z at c.in-Some-places.ensures in
    rw (c.in-Shr.is, counted_is c.args.b 32 m.0.0 m.0.1, ← m.1) (ap Value (to_z-of_z w128 _ f ∙ c.from-in-Some-places.ensures ∙ right w32 c.args.a c.in-Some-places.k c.ranges.a.fits))

pub returns-in-And : goal.returns-in-And
returns-in-And c =
    let fc = c.ranges.b in
    let fb : FitsUnsigned w32 c.args.b = search rules in
    let f : FitsSigned w128 c.from-in-And.result = search rules in
    rw c.in-And.is (ap Value (to_z-of_z w128 _ f ∙ (simp to_z-of_z at c.from-in-And.ensures) ∙ bits_of w32 bit_and c.args.a c.args.b fb c.ranges.a.fits (omega (arith, and_le_l c.args.a (unsigned_abs c.args.b), c.ranges.a.fits))))

pub returns-in-Xor : goal.returns-in-Xor
returns-in-Xor c =
    let fc = c.ranges.b in
    let fb : FitsUnsigned w32 c.args.b = search rules in
    let f : FitsSigned w128 c.from-in-Xor.result = search rules in
    rw c.in-Xor.is (ap Value (to_z-of_z w128 _ f ∙ (simp to_z-of_z at c.from-in-Xor.ensures) ∙ bits_of w32 bit_xor c.args.a c.args.b fb c.ranges.a.fits (xor_lt 32 _ _ c.ranges.a.fits (below w32 c.args.b fb))))

pub returns-in-Or : goal.returns-in-Or
returns-in-Or c =
    let fc = c.ranges.b in
    let fb : FitsUnsigned w32 c.args.b = search rules in
    let f : FitsSigned w128 c.from-in-Or.result = search rules in
    rw c.in-Or.is (ap Value (to_z-of_z w128 _ f ∙ (simp to_z-of_z at c.from-in-Or.ensures) ∙ bits_of w32 bit_or c.args.a c.args.b fb c.ranges.a.fits (or_lt 32 _ _ c.ranges.a.fits (below w32 c.args.b fb))))
