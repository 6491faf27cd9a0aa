use Rattle.std.proofs.Common.{take}
use Rattle.circuits.proofs.Multiplying.{Multiplied}
use Rattle.circuits.proofs.products.product.Given as goal

abbrev pub invariant-loop-i : goal.invariant-loop-i
invariant-loop-i l = Multiplied l.fn.net l.net l.a (take l.i l.b) l.total.items l.i
