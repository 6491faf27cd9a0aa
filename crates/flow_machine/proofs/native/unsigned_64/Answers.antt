use Rattle.std.proofs.Common.{rules, arith, ap, ◌/◌, ◌%◌, ◌∙◌, ◌<◌, pos, FitsSigned, ◌^◌, bit_and, bit_or, bit_xor, sym}
use Rattle.std.specs.Int.{w64, w128, FitsUnsigned}
use Rattle.std.proofs.lemmas.Int.{to_z-of_z, ints}
use Rattle.std.proofs.lemmas.Bool.{lt-ltb}
use Rattle.std.proofs.lemmas.Nat.{and_le_l, or_lt, xor_lt}
use Rattle.std.proofs.Math.Nat.{div-le_self, mod-le}
use Rattle.flow_code.specs.declared.code.Word.TheVariants.{Unsigned64}
use Rattle.c_core.specs.declared.number.Done.TheVariants.{Value}
use Rattle.c_core.proofs.UnsignedOperators.{sum, difference, product, bits_of}
use Rattle.flow_machine.proofs.Dividing.{not_zero, divided, left_over}
use Rattle.flow_machine.proofs.native.unsigned_64.Goals as goal

pub returns-in-Add : goal.returns-in-Add
returns-in-Add c =
    let f : FitsSigned w128 c.from.result = search rules in
    let i : FitsUnsigned w64 (pos c.args.b) = (omega (arith, ints), omega (arith, ints, c.ranges.b.fits)) in
    rw c.in-Add.is (ap Value (sym (to_z-of_z w128 _ f ∙ c.from.ensures ∙ ap pos c.overflowing_add-r.ensures.value ∙ sum w64 c.args.a (pos c.args.b) i)))

pub returns-in-Sub : goal.returns-in-Sub
returns-in-Sub c =
    let f : FitsSigned w128 c.from-in-Sub.result = search rules in
    let i : FitsUnsigned w64 (pos c.args.b) = (omega (arith, ints), omega (arith, ints, c.ranges.b.fits)) in
    let l : c.overflowing_sub-r.result.0 < 2 ^ 64 = search rules in
    rw c.in-Sub.is (ap Value (sym (to_z-of_z w128 _ f ∙ c.from-in-Sub.ensures ∙ difference w64 c.args.a _ (pos c.args.b) i l c.ranges.a.fits c.overflowing_sub-r.ensures.value)))

pub returns-in-Mul : goal.returns-in-Mul
returns-in-Mul c =
    let f : FitsSigned w128 c.from-in-Mul.result = search rules in
    let i : FitsUnsigned w64 (pos c.args.b) = (omega (arith, ints), omega (arith, ints, c.ranges.b.fits)) in
    rw c.in-Mul.is (ap Value (sym (to_z-of_z w128 _ f ∙ c.from-in-Mul.ensures ∙ ap pos c.overflowing_mul-r.ensures.value ∙ product w64 c.args.a (pos c.args.b) i)))

pub returns-in-Some : goal.returns-in-Some
returns-in-Some c =
    let f : FitsSigned w128 c.from-in-Some.result = search rules in
    let h = c.in-Some.ensures in
    let l : c.args.a / c.args.b < 2 ^ 64 = omega (arith, div-le_self c.args.a c.args.b, c.ranges.a.fits) in
    rw c.in-Div.is
    (divided Unsigned64 (pos c.args.a) (pos c.args.b) _ (not_zero w64 (pos c.args.b) h.0) (lt-ltb (c.args.a / c.args.b) (2 ^ 64) l)
    (to_z-of_z w128 _ f ∙ c.from-in-Some.ensures ∙ ap pos h.1))

pub returns-in-Some-checked_rem : goal.returns-in-Some-checked_rem
returns-in-Some-checked_rem c =
    let f : FitsSigned w128 c.from-in-Some-checked_rem.result = search rules in
    let h = c.in-Some-checked_rem.ensures in
    let l : c.args.a / c.args.b < 2 ^ 64 = omega (arith, div-le_self c.args.a c.args.b, c.ranges.a.fits) in
    let k : c.args.a % c.args.b < 2 ^ 64 = omega (arith, mod-le c.args.a c.args.b, c.ranges.a.fits) in
    rw c.in-Rem.is
    (left_over Unsigned64 (pos c.args.a) (pos c.args.b) _ (not_zero w64 (pos c.args.b) h.0) (lt-ltb (c.args.a / c.args.b) (2 ^ 64) l)
    (lt-ltb (c.args.a % c.args.b) (2 ^ 64) k) (to_z-of_z w128 _ f ∙ c.from-in-Some-checked_rem.ensures ∙ ap pos h.1))

pub returns-in-And : goal.returns-in-And
returns-in-And c =
    let f : FitsSigned w128 c.from-in-And.result = search rules in
    let i : FitsUnsigned w64 (pos c.args.b) = (omega (arith, ints), omega (arith, ints, c.ranges.b.fits)) in
    rw c.in-And.is (ap Value (sym (to_z-of_z w128 _ f ∙ c.from-in-And.ensures ∙ bits_of w64 bit_and c.args.a (pos c.args.b) i c.ranges.a.fits (omega (arith, and_le_l c.args.a c.args.b, c.ranges.a.fits)))))

pub returns-in-Xor : goal.returns-in-Xor
returns-in-Xor c =
    let f : FitsSigned w128 c.from-in-Xor.result = search rules in
    let i : FitsUnsigned w64 (pos c.args.b) = (omega (arith, ints), omega (arith, ints, c.ranges.b.fits)) in
    rw c.in-Xor.is (ap Value (sym (to_z-of_z w128 _ f ∙ c.from-in-Xor.ensures ∙ bits_of w64 bit_xor c.args.a (pos c.args.b) i c.ranges.a.fits (xor_lt 64 _ _ c.ranges.a.fits c.ranges.b.fits))))

pub returns-in-Or : goal.returns-in-Or
returns-in-Or c =
    let f : FitsSigned w128 c.from-in-Or.result = search rules in
    let i : FitsUnsigned w64 (pos c.args.b) = (omega (arith, ints), omega (arith, ints, c.ranges.b.fits)) in
    rw c.in-Or.is (ap Value (sym (to_z-of_z w128 _ f ∙ c.from-in-Or.ensures ∙ bits_of w64 bit_or c.args.a (pos c.args.b) i c.ranges.a.fits (or_lt 64 _ _ c.ranges.a.fits c.ranges.b.fits))))
