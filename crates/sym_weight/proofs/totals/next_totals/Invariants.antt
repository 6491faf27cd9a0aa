use Rattle.std.proofs.Common.{◌≡◌, ◌++◌, drop, map}
use Rattle.sym_weight.specs.Tally.{tallies_view}
use Rattle.sym_weight.specs.Totals.{next_total}
use Rattle.sym_weight.proofs.totals.next_totals.Given as goal

-- with what is left it becomes what the whole gives
abbrev pub invariant-loop-tally : goal.invariant-loop-tally
invariant-loop-tally l =
    (l.next.items ++ map (next_total l.all) (tallies_view (drop l.tally-index l.tallies)) ≡ map (next_total l.all) (tallies_view l.tallies))
