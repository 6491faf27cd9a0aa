use Rattle.c_core.specs.View.{program_view}
use Rattle.sym_flow.proofs.Becoming.{cut_became}
use Rattle.sym_flow.proofs.scopes.cut.Goals as goal

pub returns : goal.returns
returns c = cut_became (program_view c.args.program.now) c.args.sym.now c.args.cells c.truncate.new.self c.requires.fits c.truncate.ensures.items
