use Rattle.std.proofs.Common.{rules, sym}
use mir.Val.{SFits}
use mir.Syntax.{w128}
use Rattle.std.proofs.lemmas.Int.{to_z-of_z}
use Rattle.c_core.specs.declared.number.DataModel.TheVariants.{Lp64}
use Rattle.c_core.proofs.Fits.{fit_kept}
use Rattle.flow_machine.proofs.arithmetic.convert.Goals as goal

pub returns-then-is_kept : goal.returns-then-is_kept
returns-then-is_kept c =
    let z : SFits w128 c.args.value = search rules in
    let h = rw (to_z-of_z w128 c.args.value z) at c.is_kept.ensures in
    rw (to_z-of_z w128 c.args.value z) (sym (fit_kept Lp64 c.args.ty c.args.value (h c.if-is_kept.true)))
