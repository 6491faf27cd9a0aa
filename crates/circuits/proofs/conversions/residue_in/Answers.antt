use Rattle.std.proofs.Common.{◌∙◌, FitsSigned, rules}
use mir.Syntax.{w128}
use Rattle.std.proofs.lemmas.Int.{to_z-of_z}
use Rattle.c_core.specs.Types.{width_of}
use Rattle.circuits.proofs.Converted.{rest_is_residue}
use Rattle.circuits.proofs.conversions.residue_in.Goals as goal

pub returns : goal.returns
returns c =
    let fits : FitsSigned w128 c.modulus.result = search rules in
    let rest_fits : FitsSigned w128 c.rem_euclid.result = search rules in
    rest_is_residue (width_of c.args.model c.args.ty) c.args.v _ _ _ _ (to_z-of_z w128 c.rem_euclid.result rest_fits) c.rem_euclid.ensures.value (to_z-of_z w128 c.args.v c.ranges.v) (to_z-of_z w128 c.modulus.result fits ∙ c.modulus.ensures)
