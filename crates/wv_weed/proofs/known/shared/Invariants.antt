use Rattle.wv_weed.specs.Known.{AreShared}
use Rattle.wv_weed.proofs.known.shared.Given as goal

abbrev pub invariant-loop-at : goal.invariant-loop-at
invariant-loop-at l = AreShared l.one l.other l.at
