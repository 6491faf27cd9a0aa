use Rattle.c_core.specs.View.{program_view}
use Rattle.sym_state.proofs.Nets.{state_grown}
use Rattle.sym_elements.proofs.Stored.{place_writes}
use Rattle.sym_elements.proofs.writing.write_place.Goals as goal

pub write-requires-clause-fits : goal.write-requires-clause-fits
write-requires-clause-fits c = state_grown (program_view c.args.program.now) c.in_ok-now.ensures.grown c.requires.fits

pub returns : goal.returns
returns c =
    place_writes (program_view c.args.program.now) c.args.object c.args.index c.args.here c.args.value.now.bits c.requires.fits c.requires.value_in c.in_ok-now.ensures.grown c.in_ok-now.ensures.value
    c.in_ok-write.ensures
