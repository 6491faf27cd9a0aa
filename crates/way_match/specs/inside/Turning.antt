-- The ways after an event, as they come out of the states from one number on.
use Rattle.std.specs.Prelude.{◌≡◌, ℕ, ◌+◌, ◌<◌, Bool, true, false, List, [], ◌++◌, take, drop, Option, Some, None, is_some, slice_get, slice_index_or}
use Rattle.c_core.specs.View.{program_view}
use Rattle.way_match.specs.Points.{BoundSegment}
use Rattle.way_match.specs.Passing.{is_assumption}
use Rattle.way_match.specs.Matching.{Seen}
use Rattle.way_match.specs.inside.Steps.{step}
use Rattle.way_match.specs.inside.Arena.{ways_of, came_of}
use Rattle.way_match.specs.View.{each_segment_view}
use Rattle.way_match.specs.declared.states.Node.{Node}
use Rattle.way_match.specs.declared.sight.Sight.{Sight}

abbrev pub seen_by : Sight → Seen
seen_by s = record { event = s.event; cells = s.memory.now.cells }

abbrev pub sighted : Sight → List BoundSegment
sighted s = each_segment_view s.segments.now

-- those before number i are past the event; a way came to that one
abbrev pub outcome : Sight → List Node → List (Option ℕ) → ℕ → Option ℕ → Bool → List (Option (List ℕ))
outcome s ns live i came shares =
    ways_of ns 0 (take i live) ++
    step (program_view s.program.now) (seen_by s) s.count (came_of ns i came) shares (drop i (sighted s)) (ways_of ns i (drop i live))

abbrev pub assumes_in : Option BoundSegment → Bool
assumes_in None = false
assumes_in (Some s) = is_assumption s.follow

-- whether the follow of segment number i is an assumption
abbrev pub assumes_at : Sight → ℕ → Bool
assumes_at s i = assumes_in (slice_get (sighted s) i)

-- a live state of a segment without waypoints to avoid
abbrev pub avoids_none : Option BoundSegment → Type 0
avoids_none None = ⊥
avoids_none (Some s) = s.avoids ≡ []

abbrev pub IsSettled : List BoundSegment → List (Option ℕ) → ℕ → Type 0
IsSettled ss live i = avoids_none (slice_get ss i) × (is_some (slice_index_or live i None) ≡ true)

-- no event can move the segment any more: it has no waypoint to avoid, and the state behind it stays live
abbrev pub IsPassed : List BoundSegment → List (Option ℕ) → ℕ → Type 0
IsPassed ss live i = avoids_none (slice_get ss i) × IsSettled ss live (i + 1)

-- the segments before a number
abbrev pub ArePassed : List BoundSegment → List (Option ℕ) → ℕ → Type 0
ArePassed ss live low = (k : ℕ) → k < low → IsPassed ss live k
