use Rattle.std.proofs.Common.{◌≡◌, sym, ◌∙◌, ap, subst, Some, pos, ℤ, w32, refl, length, ◌<◌, ℕ}
use Rattle.std.specs.Prelude.{unsigned_abs, slice_get}
use Rattle.std.proofs.lemmas.Int.{to_z-of_z}
use Rattle.std.proofs.lemmas.Option.{slice_get_read}
use mathlib.Core.Bool.{beq}
use lib.Signed.{lt_z}
use Rattle.sat_core.specs.Values.{IsValue, Valued}
use Rattle.sat_core.proofs.Table.{value_told}
use Rattle.sat_core.proofs.trail.Trail.value.Goals as goal

pub returns-in-Some : goal.returns-in-Some
returns-in-Some c =
    let t = c.args.self.now.entries.items in
    let values = c.args.self.now.values.items in
    let is : c.unsigned_abs.result ≡ unsigned_abs c.args.number = c.unsigned_abs.ensures.value ∙ ap unsigned_abs (to_z-of_z w32 c.args.number c.ranges.number) in
    let read : slice_get values c.unsigned_abs.result ≡ Some c.index.result.now = slice_get_read values _ c.unsigned_abs.result c.index.result.now refl (subst (λ (k : ℕ). k < length values) (sym is) c.requires.within) c.index.ensures in
    let v : Valued t (unsigned_abs c.args.number) c.in-Some.value = c.requires.told.from (unsigned_abs c.args.number) c.in-Some.value (ap (slice_get values) (sym is) ∙ read ∙ ap Some c.in-Some.is) in
    subst (λ (z : ℤ). IsValue t c.args.number (Some (beq c.in-Some.value (lt_z (pos 0) z)))) (sym (to_z-of_z w32 c.args.number c.ranges.number))
    (value_told t c.args.number c.in-Some.value v)
