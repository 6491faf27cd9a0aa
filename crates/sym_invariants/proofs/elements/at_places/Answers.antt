use Rattle.c_core.specs.View.{program_view}
use Rattle.sym_invariants.proofs.Found.{at_places}
use Rattle.sym_invariants.proofs.elements.at_places.Goals as goal

pub returns : goal.returns
returns c before i m cell made =
    at_places (program_view c.args.program.now) c.args.object made c.requires.few (rw c.as_slice-bits.ensures at c.in_ok-defined.ensures) (rw (c.as_slice-bits.ensures, c.as_slice-digits.ensures) at c.in_ok-bits.ensures)
