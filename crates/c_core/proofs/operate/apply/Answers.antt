use Rattle.std.proofs.Common.{refl, sym, ◌∙◌, ◌≡◌, true, false}
use Rattle.std.specs.Int.{w32, w64}
use Rattle.std.proofs.lemmas.Int.{to_z-of_z}
use Rattle.c_core.specs.Types.{width_of, is_signed}
use Rattle.c_core.specs.declared.number.DataModel.TheVariants.{Lp64}
use Rattle.c_core.specs.declared.number.IntType.TheVariants.{Int, UInt, LongLong, ULongLong}
use Rattle.c_core.proofs.Promoted.{alike, wide, in_range_signed, in_range_unsigned}
use Rattle.c_core.proofs.operate.apply.Goals as goal

pub returns-in-true-eq32 : goal.returns-in-true-eq32
returns-in-true-eq32 c =
    let i : is_signed c.args.ty ≡ true = sym c.in-true-eq32.ensures in
    let w : width_of c.args.model c.args.ty ≡ 32 = sym c.width.ensures ∙ c.in-true-eq32.is-1 in
    let fb = c.ranges.b in
    let fc = c.ranges.a in
    let fa = in_range_signed w32 c.args.model c.args.ty c.args.a i w c.requires.left in
    (simp to_z-of_z at c.operate_i32.ensures) ∙ sym (alike c.args.model Lp64 c.args.ty Int c.args.op c.args.a c.args.b c.requires.promoted refl w i)

pub returns-in-true-default : goal.returns-in-true-default
returns-in-true-default c =
    let i : is_signed c.args.ty ≡ true = sym c.in-true-default.ensures in
    let w : width_of c.args.model c.args.ty ≡ 64 = wide c.args.model c.args.ty c.requires.promoted (λ e. c.in-true-default.is-1.1 (c.width.ensures ∙ e)) in
    let fb = c.ranges.b in
    let fc = c.ranges.a in
    let fa = in_range_signed w64 c.args.model c.args.ty c.args.a i w c.requires.left in
    (simp to_z-of_z at c.operate_i64.ensures) ∙ sym (alike c.args.model Lp64 c.args.ty LongLong c.args.op c.args.a c.args.b c.requires.promoted refl w i)

pub returns-in-false-eq32 : goal.returns-in-false-eq32
returns-in-false-eq32 c =
    let i : is_signed c.args.ty ≡ false = sym c.in-false-eq32.ensures in
    let w : width_of c.args.model c.args.ty ≡ 32 = sym c.width.ensures ∙ c.in-false-eq32.is-1 in
    let fb = c.ranges.b in
    let fc = c.ranges.a in
    let e = in_range_unsigned c.args.model c.args.ty c.args.a i c.requires.left in
    (simp (to_z-of_z, e) at c.operate_u32.ensures) ∙ sym (alike c.args.model Lp64 c.args.ty UInt c.args.op c.args.a c.args.b c.requires.promoted refl w i)

pub returns-in-false-default : goal.returns-in-false-default
returns-in-false-default c =
    let i : is_signed c.args.ty ≡ false = sym c.in-false-default.ensures in
    let w : width_of c.args.model c.args.ty ≡ 64 = wide c.args.model c.args.ty c.requires.promoted (λ e. c.in-false-default.is-1.1 (c.width.ensures ∙ e)) in
    let fb = c.ranges.b in
    let fc = c.ranges.a in
    let e = in_range_unsigned c.args.model c.args.ty c.args.a i c.requires.left in
    (simp (to_z-of_z, e) at c.operate_u64.ensures) ∙ sym (alike c.args.model Lp64 c.args.ty ULongLong c.args.op c.args.a c.args.b c.requires.promoted refl w i)
