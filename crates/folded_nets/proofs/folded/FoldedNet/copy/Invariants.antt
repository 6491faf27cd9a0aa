use Rattle.std.proofs.Common.{◌≡◌, length}
use Rattle.folded_nets.specs.Following.{Follows}
use Rattle.folded_nets.proofs.folded.FoldedNet.copy.Given as goal

abbrev pub invariant-loop-at : goal.invariant-loop-at
invariant-loop-at l = record { follows : Follows l.old l.self; counted : length l.self.copies.items ≡ l.at }
