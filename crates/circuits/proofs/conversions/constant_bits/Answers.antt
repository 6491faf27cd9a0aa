use Rattle.std.proofs.Common.{◌∙◌, ap}
use mir.Syntax.{w128}
use Rattle.std.proofs.lemmas.Int.{to_z-of_z}
use Rattle.c_core.specs.Types.{residue, width_of}
use Rattle.circuits.proofs.Converted.{constant_reads, constant_counts}
use Rattle.circuits.proofs.conversions.constant_bits.Goals as goal

pub returns : goal.returns
returns c = constant_reads c.args.v _ c.requires (c.residue_in-rest.ensures ∙ ap (residue (width_of c.args.model c.args.ty)) (to_z-of_z w128 c.args.v c.ranges.v)) (constant_counts _ _ c.width.ensures c.in_ok-out.ensures)
