use Rattle.std.proofs.Common.{◌≡◌}
use Rattle.sym_weight.specs.Tally.{tallies_view}
use Rattle.sym_weight.specs.Totals.{totals_after}
use Rattle.sym_weight.proofs.totals.totals_after.Given as goal

abbrev pub invariant-loop-round : goal.invariant-loop-round
invariant-loop-round l = (l.all.items ≡ totals_after (tallies_view l.tallies) l._round)
