use Rattle.c_core.specs.View.{program_view}
use Rattle.sym_flow.proofs.Becoming.{again_became}
use Rattle.sym_flow.proofs.ways.go_again.Goals as goal

pub returns : goal.returns
returns c =
    again_became (program_view c.args.program.now) c.args.sym.now c.together.new.self c.in_ok-on.on c.never-sym.result c.requires.fits c.in_ok-on.ensures.grown c.in_ok-on.ensures.value c.never-sym.ensures
