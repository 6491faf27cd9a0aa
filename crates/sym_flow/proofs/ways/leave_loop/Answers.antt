use Rattle.c_core.specs.View.{program_view}
use Rattle.sym_flow.proofs.Becoming.{leaving_became}
use Rattle.sym_flow.proofs.ways.leave_loop.Goals as goal

pub returns : goal.returns
returns c =
    leaving_became (program_view c.args.program.now) c.args.sym.now c.together.new.self c.in_ok-out.out c.never-sym.result c.requires.fits c.in_ok-out.ensures.grown c.in_ok-out.ensures.value c.never-sym.ensures
