use Rattle.std.proofs.Common.{take}
use Rattle.circuits.proofs.Counting.{Noted}
use Rattle.circuits.proofs.lists.any.Given as goal

abbrev pub invariant-loop-i : goal.invariant-loop-i
invariant-loop-i l = Noted l.fn.net l.net (take l.i l.bits) l.none l.i
