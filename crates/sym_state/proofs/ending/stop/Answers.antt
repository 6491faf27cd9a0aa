use Rattle.c_core.specs.View.{program_view}
use Rattle.sym_state.proofs.Turning.{stop_turned}
use Rattle.sym_state.proofs.ending.stop.Goals as goal

pub returns : goal.returns
returns c = stop_turned (program_view c.args.program.now) c.args.sym.now c.under.new.self c.args.bad c.not.result c.in_ok-live.live c.requires.fits c.requires.bad_in c.in_ok-live.ensures.grown c.not.ensures c.in_ok-live.ensures.value
