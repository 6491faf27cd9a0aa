use Rattle.std.proofs.Common.{◌-◌}
use Rattle.way_match.specs.inside.Resting.{AreStill}
use Rattle.way_match.proofs.resting.quiet_from.Given as goal

abbrev pub invariant-loop-quiet : goal.invariant-loop-quiet
invariant-loop-quiet l = AreStill l.live l.low → AreStill l.live l.quiet

abbrev pub decreases-loop-quiet : goal.decreases-loop-quiet
decreases-loop-quiet l = l.reach - l.quiet
