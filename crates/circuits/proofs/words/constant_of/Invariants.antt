use Rattle.std.proofs.Common.{take}
use Rattle.circuits.proofs.Unknowns.{IsConstantSoFar}
use Rattle.circuits.proofs.words.constant_of.Given as goal

abbrev pub invariant-loop-at : goal.invariant-loop-at
invariant-loop-at l = IsConstantSoFar (take l.at l.bits) l.number l.at
