use Rattle.c_core.specs.View.{program_view}
use Rattle.sym_flow.proofs.Becoming.{fresh_again_became}
use Rattle.sym_flow.proofs.scopes.start_body.Goals as goal

pub returns-clause-became : goal.returns-clause-became
returns-clause-became c = fresh_again_became (program_view c.args.program.now) c.args.sym.now c.never-sym.result c.requires.fits c.never-sym.ensures
