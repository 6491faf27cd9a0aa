use Rattle.c_core.specs.View.{program_view}
use Rattle.sym_flow.proofs.Becoming.{back_became}
use Rattle.sym_flow.proofs.ways.go_back.Goals as goal

pub returns : goal.returns
returns c =
    back_became (program_view c.args.program.now) c.args.sym.now c.together.new.self c.in_ok-back.back c.never-sym.result c.requires.fits c.in_ok-back.ensures.grown c.in_ok-back.ensures.value c.never-sym.ensures
