use Rattle.std.proofs.Common.{arith, ◌≡◌}
use Rattle.std.specs.Int.{w128, cast_unsigned}
use Rattle.std.proofs.lemmas.Int.{to_z-of_z}
use Rattle.c_core.proofs.Residues.{masked, residue_below}
use Rattle.c_core.proofs.types.low_bits.Goals as goal

pub returns : goal.returns
returns c =
    let f = c.ranges.v in
    let is : c.cast_unsigned.result ≡ cast_unsigned w128 c.args.v = simp to_z-of_z at c.cast_unsigned.ensures in
    let e = masked c.args.bits c.args.v (omega arith) f in
    record { value = rw is e; bound = rw (is, e) (residue_below c.args.bits c.args.v) }
