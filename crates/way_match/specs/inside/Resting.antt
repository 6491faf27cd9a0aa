-- Events that leave all live states as they are.
use Rattle.std.specs.Prelude.{◌≡◌, ℕ, suc, ◌<◌, Bool, true, false, List, length, Option, Some, None, ◌&&◌, ◌||◌, not, is_some, slice_get, slice_index_or}
use Rattle.c_core.specs.Tree.{Program}
use Rattle.way_match.specs.Points.{BoundSegment}
use Rattle.way_match.specs.Passing.{passes, passes_any}
use Rattle.way_match.specs.Matching.{Seen}

-- the event passes an avoid of the segment
abbrev pub avoids_in : Program → Seen → Option BoundSegment → Bool
avoids_in p e None = false
avoids_in p e (Some s) = passes_any p s.avoids e.event e.cells

-- the event passes the follow of the segment
abbrev pub follows_in : Program → Seen → Option BoundSegment → Bool
follows_in p e None = false
follows_in p e (Some s) = passes p s.follow e.event e.cells

abbrev pub is_live : List (Option ℕ) → ℕ → Bool
is_live live k = is_some (slice_index_or live k None)

-- the state behind segment number k is live, and it isn't that behind all segments, which stays for no event
abbrev pub is_next_live : List (Option ℕ) → ℕ → Bool
is_next_live live k = is_live live (suc k) && is_some (slice_get live (suc (suc k)))

-- the event may make the state behind segment number k live
abbrev pub opens_at : Program → Seen → List BoundSegment → List (Option ℕ) → ℕ → Bool
opens_at p e ss live k = is_live live k && (follows_in p e (slice_get ss k) && not (is_next_live live k))

-- the event ends state number k, or may make the next one live
abbrev pub moves_at : Program → Seen → List BoundSegment → List (Option ℕ) → ℕ → Bool
moves_at p e ss live k =
    is_live live k && (avoids_in p e (slice_get ss k) || (follows_in p e (slice_get ss k) && not (is_next_live live k)))

-- no event makes the state behind segment number k live: it is so already, or none comes from the state before
abbrev pub is_still : List (Option ℕ) → ℕ → Bool
is_still live k = not (is_live live k) || is_next_live live k

abbrev pub AreStill : List (Option ℕ) → ℕ → Type 0
AreStill live quiet = (k : ℕ) → k < quiet → is_still live k ≡ true

-- no segment has a waypoint to avoid that the event passes, of those before a number
abbrev pub AvoidsNone : Program → Seen → List BoundSegment → ℕ → Type 0
AvoidsNone p e ss reach = (k : ℕ) → k < reach → avoids_in p e (slice_get ss k) ≡ false

-- the event leaves all states but the last as they are
abbrev pub LeavesAll : Program → Seen → List BoundSegment → List (Option ℕ) → Type 0
LeavesAll p e ss live = (k : ℕ) → k < length ss → moves_at p e ss live k ≡ false
