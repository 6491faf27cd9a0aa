use Rattle.c_core.specs.View.{program_view}
use Rattle.sym_flow.proofs.Becoming.{loop_became}
use Rattle.sym_flow.proofs.scopes.end_loop.Goals as goal

pub returns : goal.returns
returns c =
    loop_became (program_view c.args.program.now) c.args.sym.now c.together.new.self c.in_ok-here.here c.args.kept c.args.cells c.truncate.new.self c.requires.fits c.requires.kept_in c.in_ok-here.ensures.grown
    c.in_ok-here.ensures.value c.truncate.ensures.items
