use Rattle.std.proofs.Common.{take}
use Rattle.circuits.proofs.Unknowns.{AreZeroDigits}
use Rattle.circuits.proofs.words.lone_digit.Given as goal

abbrev pub invariant-loop-bit : goal.invariant-loop-bit
invariant-loop-bit l = AreZeroDigits (take l.bit-index l.above)
