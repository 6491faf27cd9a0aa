use Rattle.std.proofs.Common.{◌≡◌, ℕ, ◌-◌, ◌<◌, false}
use Rattle.c_core.specs.View.{program_view}
use Rattle.way_match.specs.inside.Resting.{opens_at}
use Rattle.way_match.specs.inside.Turning.{seen_by, sighted}
use Rattle.way_match.proofs.resting.opens_none.Given as goal

-- none of those before opens
abbrev pub invariant-loop-k : goal.invariant-loop-k
invariant-loop-k l = (j : ℕ) → j < l.k → opens_at (program_view l.sight.program.now) (seen_by l.sight) (sighted l.sight) l.live j ≡ false

abbrev pub decreases-loop-k : goal.decreases-loop-k
decreases-loop-k l = l.reach - l.k
