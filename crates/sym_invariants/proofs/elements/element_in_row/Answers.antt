use Rattle.c_core.specs.View.{program_view}
use Rattle.sym_state.proofs.Nets.{state_grown}
use Rattle.sym_elements.proofs.Found.{two_grown}
use Rattle.sym_invariants.proofs.Found.{row_sees}
use Rattle.sym_invariants.proofs.elements.element_in_row.Goals as goal

pub at_places-requires-clause-fits : goal.at_places-requires-clause-fits
at_places-requires-clause-fits c = state_grown (program_view c.args.program.now) (two_grown c.in_ok-both.ensures.grown c.in_ok-places.ensures.placed.grown) c.requires.fits

pub returns : goal.returns
returns c f g x y =
    row_sees (program_view c.args.program.now) c.args.object c.args.row_type c.args.column_type c.requires.fits x y c.in_ok-both.ensures.grown c.in_ok-both.ensures.value (rw (c.as_slice.ensures, c.as_slice-2.ensures) at c.in_ok-places.ensures.placed) c.in_ok-r.ensures
