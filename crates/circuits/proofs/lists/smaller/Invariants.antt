use Rattle.std.proofs.Common.{take}
use Rattle.circuits.proofs.Counting.{Ranked}
use Rattle.circuits.proofs.lists.smaller.Given as goal

abbrev pub invariant-loop-i : goal.invariant-loop-i
invariant-loop-i l = Ranked l.fn.net l.net (take l.i l.a) (take l.i l.b) l.less l.i
