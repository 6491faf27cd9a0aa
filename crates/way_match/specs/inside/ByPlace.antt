-- The segments that an event can move: those with a waypoint at its place, and where the property fails those with a target.
use Rattle.std.specs.Prelude.{ℕ, ◌+◌, Bool, true, false, cond, List, [], ◌∷◌, ◌++◌, Option, Some, None, ◌||◌, ◌≡◌, slice_index_or}
use Rattle.std.specs.List.{list_any}
use Rattle.std.specs.Ordering.{nat_cmp, ordering_then}
use Rattle.std.specs.declared.cmp.Ordering.{Ordering}
use Rattle.std.specs.BTreeMap.{get}
use Rattle.std.specs.declared.vec.Vec.{Vec}
use Rattle.std.specs.declared.alloc.Global.{Global}
use Rattle.c_core.specs.declared.number.Spot.{Spot}
use Rattle.c_core.specs.Parts.{same_spot}
use Rattle.way_match.specs.Points.{Point, Assume, Target, Enter, Return, Branch, BoundSegment}
use Rattle.way_match.specs.declared.by_place.ByPlace.{ByPlace}

-- the place of a waypoint; a target has none of its own
abbrev pub point_spot : Point → Option Spot
point_spot (Assume spot test) = Some spot
point_spot (Target aim) = None
point_spot (Enter close) = Some close
point_spot (Return close test) = Some close
point_spot (Branch spot way) = Some spot

abbrev pub same_place : Option Spot → Option Spot → Bool
same_place None None = true
same_place (Some a) (Some b) = same_spot a b
same_place _ _ = false

abbrev pub may_pass : Option Spot → Point → Bool
may_pass at x = same_place (point_spot x) at

abbrev pub may_move : Option Spot → BoundSegment → Bool
may_move at s = list_any (may_pass at) s.avoids || may_pass at s.follow

-- the number of a segment, once for each of these waypoints that is there
abbrev pub numbers_for : Option Spot → ℕ → List Point → List ℕ
numbers_for at k [] = []
numbers_for at k (x ∷ xs) = cond (may_pass at x) (k ∷ []) [] ++ numbers_for at k xs

-- of segments numbered from k on, those that an event there can move
abbrev pub moved : Option Spot → ℕ → List BoundSegment → List ℕ
moved at k [] = []
moved at k (s ∷ ss) = numbers_for at k s.avoids ++ (numbers_for at k (s.follow ∷ []) ++ moved at (k + 1) ss)

-- ---- what is kept

-- by line, then by column
abbrev pub spot_cmp : ℕ × ℕ → ℕ × ℕ → Ordering
spot_cmp a b = ordering_then (nat_cmp a.0 b.0) (nat_cmp a.1 b.1)

abbrev pub items_if : Option (Vec ℕ Global) → List ℕ
items_if None = []
items_if (Some numbers) = numbers.items

abbrev pub numbers_in : ByPlace → Option Spot → List ℕ
numbers_in m None = m.targets.items
numbers_in m (Some spot) = items_if (get spot_cmp m.placed (spot.line, spot.column))

-- whether a line is marked; one past all marks isn't
abbrev pub is_marked : List Bool → ℕ → Bool
is_marked lines line = slice_index_or lines line false

-- no segment has a waypoint on a line that isn't marked
abbrev pub IsClear : ByPlace → Type 0
IsClear m = (spot : Spot) → is_marked m.lines.items spot.line ≡ false → numbers_in m (Some spot) ≡ []
