use Rattle.std.proofs.Common.{◌≡◌, ◌++◌, drop}
use Rattle.wv_weed.specs.Numbers.{unflagged}
use Rattle.wv_weed.proofs.numbers.without.Given as goal

abbrev pub invariant-loop-at : goal.invariant-loop-at
invariant-loop-at l = l.others ++ unflagged (drop l.at l.flags) (drop l.at l.numbers) ≡ unflagged l.flags l.numbers
