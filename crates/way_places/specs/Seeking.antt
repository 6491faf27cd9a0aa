-- Walks that keep what they found so far.
use Rattle.std.specs.Prelude.{ℕ, nat_lt, Bool, cond, ◌&&◌, List, [], ◌∷◌, ◌++◌, Option, Some, None}
use Rattle.c_core.specs.Tree.{Exp, Stm, Stms, MoreStm, Function}
use Rattle.c_core.specs.Parts.{spot_of, statements_of}
use Rattle.c_core.specs.Places.{is_named, same_kind, places_of_body, calls_reach_error, ends_at, before_in, before_in_statement}
use Rattle.c_core.specs.declared.number.IntType.{IntType}
use Rattle.c_core.specs.declared.number.Spot.{Spot}
use Rattle.c_core.specs.declared.place.PlaceKind.{PlaceKind}
use Rattle.c_core.specs.declared.place.Place.{Place}
use Rattle.way_places.specs.Switches.{switch_in}
use Rattle.way_places.specs.declared.expressions.Wanted.{Wanted}
use Rattle.way_places.specs.declared.expressions.Wanted.TheVariants.{EndsAt, Starts, ReachesError}

-- of two places on a line the leftmost, the earlier where they are one
abbrev pub nearer : Option Spot → Spot → Spot
nearer None a = a
nearer (Some best) a = cond (nat_lt a.column best.column) a best

abbrev pub is_sought : PlaceKind → ℕ → Option ℕ → Place → Bool
is_sought kind line column p = same_kind kind p.kind && is_named line column p.spot

-- the best place so far, and these
abbrev pub best_of : PlaceKind → ℕ → Option ℕ → Option Spot → List Place → Option Spot
best_of kind line column best [] = best
best_of kind line column best (p ∷ ps) =
    best_of kind line column (cond (is_sought kind line column p) (Some (nearer best p.spot)) best) ps

-- what an expression is sought for
abbrev pub is_wanted : Wanted → Exp → Bool
is_wanted (EndsAt close) e = ends_at close e
is_wanted (Starts line column) e = is_named line column (spot_of e)
is_wanted (ReachesError line column) e = calls_reach_error e && is_named line column (spot_of e)

abbrev pub or_this : {A : Type 0} → Option A → Bool → A → Option A
or_this None found a = cond found (Some a) None
or_this (Some first) found a = Some first

-- the first of these, where none was found before
abbrev pub first_of : (Exp → Bool) → Option Exp → List Exp → Option Exp
first_of q found [] = found
first_of q found (e ∷ es) = first_of q (or_this found (q e) e) es

abbrev pub or_else : {A : Type 0} → Option A → Option A → Option A
or_else None b = b
or_else (Some a) b = Some a

-- the statement before a place, where none was found before
abbrev pub before_of : Spot → Option Stm → List Stm → Option Stm
before_of spot found [] = found
before_of spot found (s ∷ ss) = before_of spot (or_else found (before_in_statement spot s)) ss

-- the type of the test of the switch at a place, where none was found before
abbrev pub type_from : Spot → Option IntType → List Stm → Option IntType
type_from spot found [] = found
type_from spot found (s ∷ ss) = type_from spot (or_else found (switch_in spot s)) ss

abbrev pub places_of_functions : List Function → List Place
places_of_functions [] = []
places_of_functions (f ∷ fs) = places_of_body f.body ++ places_of_functions fs

abbrev pub statements_of_functions : List Function → List Stm
statements_of_functions [] = []
statements_of_functions (f ∷ fs) = statements_of f.body ++ statements_of_functions fs

-- the statement before a place, in these statements behind the last one
abbrev pub before_behind : Spot → Option Stm → Stms → Option Stm
before_behind spot None b = before_in spot b
before_behind spot (Some s) b = before_in spot (MoreStm s b)
