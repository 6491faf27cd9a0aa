use Rattle.std.proofs.Common.{◌≡◌, ◌++◌, drop, map}
use Rattle.c_core.specs.Parts.{spot_of}
use Rattle.way_places.specs.Calls.{fulls_view}
use Rattle.way_places.proofs.aims.push_starts.Given as goal

-- with what is left it becomes what the whole gives
abbrev pub invariant-loop-full : goal.invariant-loop-full
invariant-loop-full l = (l.spots.items ++ map spot_of (fulls_view (drop l.full-index l.fulls)) ≡ l.initial.spots.items ++ map spot_of (fulls_view l.fulls))
