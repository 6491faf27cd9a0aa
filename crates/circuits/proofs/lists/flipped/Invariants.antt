use Rattle.std.proofs.Common.{◌≡◌, take, map}
use Rattle.circuits.specs.Net.{opposite}
use Rattle.circuits.proofs.lists.flipped.Given as goal

abbrev pub invariant-loop-bit : goal.invariant-loop-bit
invariant-loop-bit l = l.out.items ≡ map opposite (take l.bit-index l.a)
