use Rattle.std.proofs.Common.{drop, length, take}
use Rattle.sym_choices.proofs.ArmLaws.{Gathered}
use Rattle.sym_choices.proofs.choosing.any_of.Given as goal

-- the bit so far, or one of those from the index on
abbrev pub invariant-loop-bit : goal.invariant-loop-bit
invariant-loop-bit l = Gathered (length (take l.bit-index l.bits)) (drop l.bit-index l.bits) l.bits l.any l.initial.net l.net
