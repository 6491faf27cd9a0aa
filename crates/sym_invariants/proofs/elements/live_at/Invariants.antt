use Rattle.c_core.specs.View.{program_view}
use Rattle.sym_invariants.proofs.Found.{LiveFirst}
use Rattle.sym_invariants.proofs.elements.live_at.Given as goal

abbrev pub invariant-loop-i : goal.invariant-loop-i
invariant-loop-i l = LiveFirst (program_view l.program) l.object l.places l.fn.sym l.sym l.live l.i
