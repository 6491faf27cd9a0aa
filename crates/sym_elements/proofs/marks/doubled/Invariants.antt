use Rattle.std.proofs.Common.{take}
use Rattle.sym_elements.specs.Marks.{AreDoubled}
use Rattle.sym_elements.proofs.marks.doubled.Given as goal

abbrev pub invariant-loop-i : goal.invariant-loop-i
invariant-loop-i l = AreDoubled l.fn.net l.net (take l.i l.marks) l.fn.digit l.out.items
