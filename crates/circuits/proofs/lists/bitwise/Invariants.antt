use Rattle.std.proofs.Common.{take}
use Rattle.circuits.proofs.Counting.{Paired}
use Rattle.circuits.proofs.lists.bitwise.Given as goal

abbrev pub invariant-loop-i : goal.invariant-loop-i
invariant-loop-i l = Paired l.fn.net l.net l.fn.kind (take l.i l.a) (take l.i l.b) l.out.items l.i
