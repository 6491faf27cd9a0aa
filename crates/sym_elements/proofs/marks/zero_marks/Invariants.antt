use Rattle.std.proofs.Common.{cond}
use Rattle.circuits.specs.Net.{holds}
use Rattle.sym_elements.specs.Marks.{AreMarks}
use Rattle.sym_elements.proofs.marks.zero_marks.Given as goal

abbrev pub invariant-loop-i : goal.invariant-loop-i
invariant-loop-i l = AreMarks l.net l.out.items l.i (λ v. cond (holds v l.net l.fn.here) 1 0)
