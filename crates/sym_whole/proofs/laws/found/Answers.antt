use Rattle.c_core.specs.View.{program_view}
use Rattle.sym_whole.proofs.Sites.{state_found}
use Rattle.sym_whole.proofs.laws.found.Goals as goal

pub returns : goal.returns
returns c w = state_found (program_view c.args.program.now) c.args.sym.now c.nodes-nodes.ensures.fine c.requires.fits w
