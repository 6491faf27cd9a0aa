-- Scopes that lie in one another, and the names that places see by them.
use Rattle.std.specs.Prelude.{◌≡◌, ℕ, ◌≤◌, suc, cond, List, [], ◌∷◌, ◌++◌, Option, Some, None, slice_get}
use Rattle.std.specs.Option.{option_flatten}
use Rattle.c_core.specs.Tree.{Program}
use Rattle.c_core.specs.TextOrder.{is_before}
use Rattle.c_core.specs.declared.number.Spot.{Spot}
use Rattle.c_core.specs.declared.place.PlaceKind.{PlaceKind}
use Rattle.c_core.specs.declared.place.PlaceKind.TheVariants as place
use Rattle.c_core.specs.declared.tree.Object.{Object}
use Rattle.way_places.specs.Maps.{first_in}
use Rattle.way_names.specs.Visible.{names_or, seen_from, sights_in_functions}
use Rattle.way_names.specs.declared.scope.Scope.{Scope}
use Rattle.way_names.specs.declared.places.ScopesAt.{ScopesAt}

-- a scope with this many may lie after it
abbrev pub height : Option ℕ → ℕ
height None = 0
height (Some number) = suc number

-- the names of a scope, innermost last: those of the scope around it, and its own
pub data IsScope (scopes : List Scope) : Option ℕ → List ℕ → Type 0 where
  outermost : IsScope scopes None []
  inner : (number : ℕ) (scope : Scope) (names : List ℕ) → slice_get scopes number ≡ Some scope → height scope.outer ≤ number
      → IsScope scopes scope.outer names → IsScope scopes (Some number) (names ++ scope.object ∷ [])

-- it is a scope
abbrev pub HasNames : List Scope → Option ℕ → Type 0
HasNames scopes scope = (names : List ℕ) × IsScope scopes scope names

-- the scope of a place, the outermost where there is none
abbrev pub scope_at : ScopesAt → Spot → Option ℕ
scope_at m spot = option_flatten (first_in m.marks.items spot)

-- by the kind of the place
abbrev pub scope_of : PlaceKind → Spot → ScopesAt → ScopesAt → Option ℕ
scope_of place.Statement spot at_statements at_loops = scope_at at_statements spot
scope_of place.Loop spot at_statements at_loops = scope_at at_loops spot
scope_of _ spot at_statements at_loops = None

-- the names that are visible at a place beside those of static storage
abbrev pub locals_at : Program → PlaceKind → Spot → List ℕ
locals_at p kind spot = names_or [] (seen_from spot (sights_in_functions kind [] p.functions))

-- the scopes that the places of a kind see
abbrev pub GivesScopes : Program → PlaceKind → List Scope → ScopesAt → Type 0
GivesScopes p kind scopes m = (spot : Spot) → IsScope scopes (scope_at m spot) (locals_at p kind spot)

-- of objects numbered from n, where those of static storage are declared, and their numbers
abbrev pub statics_from : ℕ → List Object → List (Spot × ℕ)
statics_from n [] = []
statics_from n (o ∷ os) = cond o.fixed ((o.spot, n) ∷ statics_from (suc n) os) (statics_from (suc n) os)

-- the numbers of those before the first that isn't declared before a place
abbrev pub front_before : Spot → List (Spot × ℕ) → List ℕ
front_before spot [] = []
front_before spot (o ∷ os) = cond (is_before o.0 spot) (o.1 ∷ front_before spot os) []

-- static objects, scopes and what sees them, of a program
pub record IsNames (p : Program) (fixed : List (Spot × ℕ)) (nested : List Scope) (at_statements at_loops : ScopesAt) : Type 0 where
  pub statics : fixed ≡ statics_from 0 p.objects
  pub statements : GivesScopes p place.Statement nested at_statements
  pub loops : GivesScopes p place.Loop nested at_loops
