-- Places by place, and at one place by kind; lists in the order of the text.
use Rattle.std.specs.Prelude.{ℕ, nat_lt, Bool, true, not, cond, ◌&&◌, ◌||◌, List, [], ◌∷◌, Option, Some, None}
use Rattle.std.specs.Option.{unwrap_or}
use Rattle.c_core.specs.Parts.{same_spot}
use Rattle.c_core.specs.Places.{number_of_kind}
use Rattle.c_core.specs.TextOrder.{is_before}
use Rattle.c_core.specs.declared.number.Spot.{Spot}
use Rattle.c_core.specs.declared.place.Place.{Place}

abbrev pub precedes : Place → Place → Bool
precedes a b = is_before a.spot b.spot || (same_spot a.spot b.spot && nat_lt (number_of_kind a.kind) (number_of_kind b.kind))

abbrev pub precedes_first : Place → List Place → Bool
precedes_first a [] = true
precedes_first a (b ∷ ps) = precedes a b

abbrev pub are_ordered : List Place → Bool
are_ordered [] = true
are_ordered (a ∷ ps) = precedes_first a ps && are_ordered ps

-- none of these stands before a place
abbrev pub stand_from : {X : Type 0} → (X → Spot) → Spot → List X → Bool
stand_from at spot [] = true
stand_from at spot (x ∷ xs) = not (is_before (at x) spot) && stand_from at spot xs

-- none stands before one that it comes after
abbrev pub follow_at : {X : Type 0} → (X → Spot) → List X → Bool
follow_at at [] = true
follow_at at (x ∷ xs) = stand_from at (at x) xs && follow_at at xs

abbrev pub follow : List Spot → Bool
follow spots = follow_at (λ spot. spot) spots

abbrev pub follow_by_spot : {V : Type 0} → List (Spot × V) → Bool
follow_by_spot es = follow_at (λ e. e.0) es

-- where what a location names begins, if it is there
abbrev pub start : ℕ → Option ℕ → Spot
start line column = record { line = line; column = unwrap_or column 0 }

-- one that passes a test
abbrev pub kept_if : {X : Type 0} → (X → Bool) → Option X → Option X
kept_if test None = None
kept_if test (Some x) = cond (test x) (Some x) None
