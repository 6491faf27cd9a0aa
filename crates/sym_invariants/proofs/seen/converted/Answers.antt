use Rattle.c_core.specs.Types.{fit}
use Rattle.c_core.specs.View.{program_view}
use Rattle.sym_invariants.proofs.Seeing.{reckoned_sees}
use Rattle.sym_invariants.proofs.seen.converted.Goals as goal

pub returns : goal.returns
returns c f x = reckoned_sees (program_view c.args.program.now) c.args.from c.args.to (fit c.args.program.now.model c.args.to) x c.in_ok-bits.ensures
