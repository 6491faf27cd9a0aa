use Rattle.std.proofs.Common.{arith}
use Rattle.c_core.specs.View.{program_view}
use Rattle.circuits.proofs.Nets.{grown_then}
use Rattle.sym_state.proofs.Nets.{state_grown}
use Rattle.sym_state.proofs.Turning.{violate_turned}
use Rattle.sym_state.proofs.ending.violate.Goals as goal

pub mark-requires-clause-fits : goal.mark-requires-clause-fits
mark-requires-clause-fits c =
    state_grown (program_view c.args.program.now) (grown_then 1 1 2 c.args.sym.now.net c.and.new.self c.under.new.self c.in_ok-both.ensures.grown c.in_ok-here.ensures.grown (omega arith)) c.requires.fits

pub returns : goal.returns
returns c =
    violate_turned (program_view c.args.program.now) c.args.sym.now c.mark.new.sym c.stop.new.sym c.and.new.self c.under.new.self c.args.bad c.args.counts c.in_ok-both.both c.in_ok-here.here c.args.duty c.requires.fits
    c.requires.bad_in c.in_ok-both.ensures.grown c.in_ok-both.ensures.value c.in_ok-here.ensures.grown c.in_ok-here.ensures.value c.in_ok-mark.ensures c.in_ok-stop.ensures
