use Rattle.std.proofs.Common.{take}
use Rattle.circuits.proofs.Multiplying.{Scaled}
use Rattle.circuits.proofs.products.scaled.Given as goal

abbrev pub invariant-loop-i : goal.invariant-loop-i
invariant-loop-i l = Scaled l.fn.net l.net (take l.i l.a) l.fn.b l.out.items l.i
