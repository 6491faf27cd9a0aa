use Rattle.c_core.specs.View.{program_view}
use Rattle.sym_state.proofs.Nets.{state_grown}
use Rattle.sym_state.proofs.Turning.{fail_turned}
use Rattle.sym_state.proofs.ending.fail.Goals as goal

pub mark-requires-clause-fits : goal.mark-requires-clause-fits
mark-requires-clause-fits c = state_grown (program_view c.args.program.now) c.in_ok-here.ensures.grown c.requires.fits

pub returns : goal.returns
returns c =
    fail_turned (program_view c.args.program.now) c.args.sym.now c.mark.new.sym c.stop.new.sym c.under.new.self c.args.bad c.in_ok-here.here c.args.duty c.requires.fits c.requires.bad_in
    c.in_ok-here.ensures.grown c.in_ok-here.ensures.value c.in_ok-mark.ensures c.in_ok-stop.ensures
