use Rattle.sym_invariants.proofs.Seeing.{nothing_seen}
use Rattle.sym_invariants.proofs.seen.no_value.Goals as goal

pub returns : goal.returns
returns c = nothing_seen c.args.program.now.model c.args.ty c.args.sym.now.net c.in_ok-bits.bits.bits c.yes.result c.not-defined.result c.in_ok-bits.ensures c.yes.ensures c.not-defined.ensures
