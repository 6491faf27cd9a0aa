use Rattle.std.proofs.Common.{◌≡◌, ◌++◌, drop}
use Rattle.c_core.specs.View.{switch_view}
use Rattle.way_places.specs.Neighbours.{pairs_in, pairs_view}
use Rattle.way_places.proofs.neighbours.push_pairs_of_arms.Given as goal

-- with what is left it becomes what the whole gives
abbrev pub invariant-loop-arm : goal.invariant-loop-arm
invariant-loop-arm l =
    (pairs_view l.list.items ++ pairs_in (switch_view (drop l.arm-index l.arms)) ≡ pairs_view l.initial.list.items ++ pairs_in (switch_view l.arms))
