use Rattle.c_core.specs.View.{program_view}
use Rattle.sym_state.proofs.Stored.{look_found, look_none}
use Rattle.sym_state.proofs.cells.look.Goals as goal

pub returns-in_ok-bits-in-Some : goal.returns-in_ok-bits-in-Some
returns-in_ok-bits-in-Some c =
    look_found (program_view c.args.program.now) c.args.sym.now c.args.object c.args.index c.in-Some.at c.index.result.now c.requires.fits (rw c.deref.ensures.value at c.in-Some.ensures) c.index.ensures c.args.ty c.in_ok-bits-in-Some.bits.bits
    c.requires.typed c.in_ok-bits-in-Some.ensures

pub returns-in_ok-bits-in-None : goal.returns-in_ok-bits-in-None
returns-in_ok-bits-in-None c =
    look_none (program_view c.args.program.now) c.args.sym.now c.args.object c.args.index c.args.ty c.in_ok-bits-in-None.bits.bits (rw c.deref.ensures.value at c.in-None.ensures) c.in_ok-bits-in-None.ensures
