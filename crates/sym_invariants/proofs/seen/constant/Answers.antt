use mir.Val.{SFits}
use mir.Syntax.{w128}
use Rattle.std.proofs.lemmas.Int.{to_z-of_z}
use Rattle.std.proofs.Common.{rules}
use Rattle.sym_invariants.proofs.Seeing.{constant_seen}
use Rattle.sym_invariants.proofs.seen.constant.Goals as goal

pub returns : goal.returns
returns c =
    let z : SFits w128 c.args.z = search rules in
    let k = rw (to_z-of_z w128 c.args.z z) at c.in_ok-bits.ensures in
    constant_seen c.args.program.now.model c.args.ty c.args.sym.now.net c.in_ok-bits.bits.bits c.yes-defined.result c.args.z k c.yes-defined.ensures
