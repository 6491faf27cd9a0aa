use Rattle.std.proofs.Common.{◌≡◌, drop}
use Rattle.c_core.specs.Places.{before_in}
use Rattle.c_core.specs.View.{switch_view}
use Rattle.way_places.proofs.before.before_in_arms.Given as goal

-- what is left gives what the whole gives
abbrev pub invariant-loop-arm : goal.invariant-loop-arm
invariant-loop-arm l = (before_in l.spot (switch_view (drop l.arm-index l.arms)) ≡ before_in l.spot (switch_view l.arms))
