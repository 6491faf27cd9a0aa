use Rattle.std.proofs.Common.{◌≡◌, ◌++◌, drop}
use Rattle.c_core.specs.Places.{of_kind}
use Rattle.way_places.proofs.aims.push_of_kind.Given as goal

-- with what is left it becomes what the whole gives
abbrev pub invariant-loop-place : goal.invariant-loop-place
invariant-loop-place l = (l.spots.items ++ of_kind l.kind (drop l.place-index l.places) ≡ l.initial.spots.items ++ of_kind l.kind l.places)
