use Rattle.std.proofs.Common.{arith}
use Rattle.c_core.specs.View.{program_view}
use Rattle.sym_state.proofs.Nets.{state_grown}
use Rattle.sym_invariants.proofs.Found.{element_sees}
use Rattle.sym_invariants.proofs.elements.element_at.Goals as goal

pub at_places-requires-clause-fits : goal.at_places-requires-clause-fits
at_places-requires-clause-fits c = state_grown (program_view c.args.program.now) c.in_ok-places.ensures.grown c.requires.fits

pub returns : goal.returns
returns c f x = element_sees (program_view c.args.program.now) c.args.object c.args.from c.requires.fits x (rw (c.as_slice-digits.ensures, c.size_of_object-count.ensures) at c.in_ok-places.ensures) c.in_ok-r.ensures
