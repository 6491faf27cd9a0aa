use Rattle.c_core.specs.View.{program_view}
use Rattle.sym_elements.proofs.Stored.{Writes}
use Rattle.sym_elements.proofs.writing.write_element.Given as goal

abbrev pub invariant-loop-i : goal.invariant-loop-i
invariant-loop-i l = Writes (program_view l.program) l.object l.bits l.value.bits l.fn.sym l.sym l.i
