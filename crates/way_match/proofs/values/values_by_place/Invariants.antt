use Rattle.std.proofs.Common.{◌≡◌, ◌++◌, drop}
use Rattle.c_core.specs.declared.number.Spot.{Spot}
use Rattle.way_match.specs.inside.Gathered.{values_in, values_of, values_view}
use Rattle.way_match.proofs.values.values_by_place.Given as goal

-- with what is left it becomes what the whole gives
abbrev pub invariant-loop-value : goal.invariant-loop-value
invariant-loop-value l = (q : Spot) → values_in l.values q ++ values_of q (values_view (drop l.value-index l.given)) ≡ values_of q (values_view l.given)
