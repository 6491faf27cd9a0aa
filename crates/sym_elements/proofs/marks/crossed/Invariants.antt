use Rattle.sym_elements.specs.Marks.{AreCrossed}
use Rattle.sym_elements.proofs.marks.crossed.Given as goal

abbrev pub invariant-loop-i : goal.invariant-loop-i
invariant-loop-i l = AreCrossed l.fn.net l.net l.rows l.columns l.i l.out.items
