use Rattle.std.proofs.Common.{take, length}
use Rattle.circuits.proofs.Raising.{Raised}
use Rattle.circuits.proofs.shifts.raised_by.Given as goal

abbrev pub invariant-loop-i : goal.invariant-loop-i
invariant-loop-i l = Raised l.fn.net l.net l.a (take l.i l.tests) l.out.items l.places l.i (length l.tests)
