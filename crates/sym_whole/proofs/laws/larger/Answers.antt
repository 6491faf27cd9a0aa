use Rattle.c_core.specs.View.{program_view}
use Rattle.sym_whole.proofs.Wholes.{larger}
use Rattle.sym_whole.proofs.laws.larger.Goals as goal

pub returns : goal.returns
returns c ds given ands inputs deed x = larger (program_view c.args.program.now) ds given x
