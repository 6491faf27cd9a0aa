-- What names mean, by versions of maps.
use Rattle.std.specs.Prelude.{◌≡◌, ◌≤◌, ℕ, List, Option, length, take}
use Rattle.c_core.specs.Tree.{Program}
use Rattle.c_core.specs.declared.number.Spot.{Spot}
use Rattle.c_core.specs.declared.place.PlaceKind.TheVariants as place
use Rattle.way_names.specs.Scopes.{locals_at, scope_at, statics_from}
use Rattle.way_names.specs.Versions.{Finds, behind, numbers_of}
use Rattle.way_names.specs.declared.versions.Versions.{Versions}
use Rattle.way_names.specs.declared.places.ScopesAt.{ScopesAt}

-- static objects, versions and what sees them, of a program
pub record IsNamed (p : Program) (fixed : List (Spot × ℕ)) (first nested : Versions) (at_statements at_loops : ScopesAt) : Type 0 where
  pub statics : fixed ≡ statics_from 0 p.objects
  pub before : (count : ℕ) → count ≤ length fixed → Finds p.objects first (behind count) (numbers_of (take count fixed))
  pub statements : (spot : Spot) → Finds p.objects nested (scope_at at_statements spot) (locals_at p place.Statement spot)
  pub loops : (spot : Spot) → Finds p.objects nested (scope_at at_loops spot) (locals_at p place.Loop spot)
