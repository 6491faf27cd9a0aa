use Rattle.std.proofs.Common.{◌≡◌, take}
use Rattle.witval.proofs.keeping.copy_hashes.Given as goal

abbrev pub invariant-loop-hash : goal.invariant-loop-hash
invariant-loop-hash l = l.copies ≡ take l.hash-index l.hashes
