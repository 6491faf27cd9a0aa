use Rattle.std.proofs.Common.{take}
use Rattle.circuits.proofs.Raising.{Lowered}
use Rattle.circuits.proofs.shifts.lowered_by.Given as goal

abbrev pub invariant-loop-i : goal.invariant-loop-i
invariant-loop-i l = Lowered l.fn.net l.net l.a (take l.i l.tests) l.out.items l.places l.i
