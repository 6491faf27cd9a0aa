use Rattle.c_core.specs.View.{program_view}
use Rattle.sym_state.proofs.Nets.{state_grown}
use Rattle.sym_elements.proofs.Found.{outside_turned}
use Rattle.sym_elements.proofs.finding.end_outside.Goals as goal

pub stop-requires-clause-fits : goal.stop-requires-clause-fits
stop-requires-clause-fits c = state_grown (program_view c.args.program.now) c.in_ok-outside.ensures.grown c.requires.fits

pub returns : goal.returns
returns c = outside_turned (program_view c.args.program.now) c.args.places.now c.requires.fits c.in_ok-outside.ensures c.in_ok-stop.ensures
