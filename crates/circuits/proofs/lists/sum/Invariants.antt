use Rattle.std.proofs.Common.{take}
use Rattle.circuits.proofs.Counting.{Added}
use Rattle.circuits.proofs.lists.sum.Given as goal

abbrev pub invariant-loop-i : goal.invariant-loop-i
invariant-loop-i l = Added l.fn.net l.net (take l.i l.a) (take l.i l.b) l.fn.c l.out.items l.carry l.i
