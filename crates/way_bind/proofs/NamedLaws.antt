-- The place that a location names is one of its kind.
use Rattle.std.proofs.Common.{◌≡◌, true, Some}
use Rattle.std.specs.List.{list_any}
use Rattle.c_core.specs.Parts.{same_spot}
use Rattle.c_core.specs.Places.{spots_of_kind, is_named}
use Rattle.c_core.specs.Tree.{Program}
use Rattle.c_core.specs.declared.number.Spot.{Spot}
use Rattle.c_core.specs.declared.place.PlaceKind.{PlaceKind}
use Rattle.wv_schema.specs.declared.witness.Location.{Location}
use Rattle.way_bind.specs.Binding.{place_named}
use Rattle.way_bind.proofs.PlaceLaws.{leftmost_among}

pub named_is_one : (p : Program) (kind : PlaceKind) (v : Location) (s : Spot) → place_named p kind v ≡ Some s → list_any (same_spot s) (spots_of_kind kind p) ≡ true
unfolding place_named
named_is_one p kind v s h = leftmost_among (is_named v.line v.column) s (spots_of_kind kind p) h
