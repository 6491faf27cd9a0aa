use Rattle.c_core.specs.View.{program_view}
use Rattle.sym_whole.proofs.Wholes.{decides}
use Rattle.sym_whole.proofs.laws.decides.Goals as goal

pub returns : goal.returns
returns c ds given ands inputs start before run first x = decides (program_view c.args.program.now) ds given c.args.first.now c.args.last.now start before run x first c.nodes-nodes.ensures.fine
