use Rattle.c_core.specs.View.{program_view}
use Rattle.sym_invariants.proofs.Cells.{live_seen, dead_seen}
use Rattle.sym_invariants.proofs.seen.cell.Goals as goal

pub returns-in_ok-bits-in-Some : goal.returns-in_ok-bits-in-Some
returns-in_ok-bits-in-Some c =
    live_seen (program_view c.args.program.now) c.args.sym.now c.args.object c.args.index c.in-Some.field-0 c.args.ty c.in_ok-bits-in-Some.bits.bits c.yes-defined.result (rw c.deref.ensures.value at c.in-Some.ensures)
    c.requires.typed c.in_ok-bits-in-Some.ensures c.yes-defined.ensures

pub returns-in_ok-r-in-None : goal.returns-in_ok-r-in-None
returns-in_ok-r-in-None c =
    dead_seen (program_view c.args.program.now) c.args.sym.now c.args.object c.args.index c.args.ty c.in_ok-r-in-None.r.bits.bits c.in_ok-r-in-None.r.defined (rw c.deref.ensures.value at c.in-None.ensures) c.in_ok-r-in-None.ensures
