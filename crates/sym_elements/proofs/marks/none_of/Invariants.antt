use Rattle.std.proofs.Common.{take}
use Rattle.sym_elements.specs.Marks.{IsNone}
use Rattle.sym_elements.proofs.marks.none_of.Given as goal

abbrev pub invariant-loop-i : goal.invariant-loop-i
invariant-loop-i l = IsNone l.fn.net l.net (take l.i l.bits) l.none
