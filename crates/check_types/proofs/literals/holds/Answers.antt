use Rattle.std.proofs.Common.{rules, ap, ◌∙◌}
use mir.Val.{SFits}
use mir.Syntax.{w128}
use Rattle.std.proofs.lemmas.Int.{to_z-of_z}
use Rattle.c_core.specs.Types.{in_range}
use Rattle.check_types.proofs.ConstantTypes.{kept_by_value}
use Rattle.check_types.proofs.literals.holds.Goals as goal

pub returns : goal.returns
returns c =
    let f : SFits w128 c.convert.result = search rules in
    let g : SFits w128 c.from-value.result = search rules in
    let e = rw (to_z-of_z w128 c.from-value.result g) at c.convert.ensures in
    kept_by_value c.args.model c.args.ty c.convert.result c.from-value.result f g e ∙ ap (in_range c.args.model c.args.ty) c.from-value.ensures
