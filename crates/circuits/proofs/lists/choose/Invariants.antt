use Rattle.std.proofs.Common.{take}
use Rattle.circuits.proofs.Counting.{Chosen}
use Rattle.circuits.proofs.lists.choose.Given as goal

abbrev pub invariant-loop-i : goal.invariant-loop-i
invariant-loop-i l = Chosen l.fn.net l.net l.fn.test (take l.i l.yes) (take l.i l.other) l.out.items l.i
