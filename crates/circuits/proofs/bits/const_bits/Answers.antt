use mir.Syntax.{w128}
use Rattle.std.proofs.lemmas.Int.{to_z-of_z}
use Rattle.circuits.proofs.Converted.{reads_at}
use Rattle.circuits.proofs.bits.const_bits.Goals as goal

pub returns : goal.returns
returns c = reads_at _ c.from_vec-bits.ensures (to_z-of_z w128 c.args.v c.ranges.v) c.in_ok-out.ensures
