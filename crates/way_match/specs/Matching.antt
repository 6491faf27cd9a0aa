-- Positions at which the events of a run match the segments of a violation witness.
use Rattle.std.specs.Prelude.{◌≡◌, ◌⊎◌, ℕ, suc, ◌<◌, ◌≤◌, Bool, true, false, not, nat_eq, nat_le, nat_lt, List, [], ◌∷◌, length, Option, Some, None, slice_get, ◌&&◌, ◌||◌}
use Rattle.c_core.specs.Tree.{Program}
use Rattle.c_meaning.specs.declared.run.Event.{Event}
use Rattle.c_meaning.specs.declared.run.Choices.{Choices}
use Rattle.c_meaning.specs.Cells.{Cell}
use Rattle.c_meaning.specs.Run.{Moment, Told, Here, Head, Moments}
use Rattle.way_match.specs.Points.{Point, BoundSegment}
use Rattle.way_match.specs.Passing.{passes, passes_any, is_assumption}

-- an event with the memory of its moment
pub record Seen : Type 0 where
  pub event : Event
  pub cells : List Cell

-- the events among the moments of a run
abbrev pub seen_of : List Moment → List Seen
seen_of [] = []
seen_of (Told e cells ∷ xs) = record { event = e; cells = cells } ∷ seen_of xs
seen_of (Here spot cells ∷ xs) = seen_of xs
seen_of (Head at l arrived cells ∷ xs) = seen_of xs

-- the events of a run with their memories, in order
abbrev pub SeenIn : Program → Choices → ℕ → List Seen
SeenIn p c N = seen_of (Moments p c N)

-- an event passes the waypoint; where there is none, none does
abbrev pub seen_passes : Program → Option Seen → Point → Bool
seen_passes p None x = false
seen_passes p (Some s) x = passes p x s.event s.cells

-- an event passes one of these waypoints; where there is no event, none
abbrev pub seen_passes_any : Program → Option Seen → List Point → Bool
seen_passes_any p None xs = false
seen_passes_any p (Some s) xs = passes_any p xs s.event s.cells

-- before a segment: the number of events up to the position before it, and whether the follow there is an assumption
pub record Before : Type 0 where
  pub events : ℕ
  pub assumes : Bool

-- before the first segment no event has passed
abbrev pub at_start : Before
at_start = record { events = 0; assumes = false }

-- positions rise, and two neighbours may be equal only where both follows are assumptions
abbrev pub Rises : Before → ℕ → Point → Type 0
Rises b n follow = (b.events ≤ n) ⊎ ((suc n ≡ b.events) × (b.assumes ≡ true) × (is_assumption follow ≡ true))

-- no event from number `from` on and before number `to` passes any of the waypoints
abbrev pub Avoids : Program → List Seen → List Point → ℕ → ℕ → Type 0
Avoids p es avoids from to = (n : ℕ) → from ≤ n → n < to → seen_passes_any p (slice_get es n) avoids ≡ false

-- one position for each segment: its event passes the follow and no event since the position before passes an avoid; the last position is the last event
abbrev pub MatchesFrom : Program → Before → List BoundSegment → List Seen → List ℕ → Type 0
MatchesFrom p b [] es [] = b.events ≡ length es
MatchesFrom p b (s ∷ ss) es (n ∷ ns) =
    (seen_passes p (slice_get es n) s.follow ≡ true) × Rises b n s.follow × Avoids p es s.avoids b.events (suc n) × MatchesFrom p (record { events = suc n; assumes = is_assumption s.follow }) ss es ns
MatchesFrom p b [] es (n ∷ ns) = ⊥
MatchesFrom p b (s ∷ ss) es [] = ⊥

-- the events pass the segments in order, at these positions counted from 0
abbrev pub Matches : Program → List BoundSegment → List Seen → List ℕ → Type 0
Matches p ss es ns = MatchesFrom p at_start ss es ns

-- exactly positions that match, or none where none do
abbrev pub Finds : Program → List BoundSegment → List Seen → Option (List ℕ) → Type 0
Finds p ss es (Some ns) = Matches p ss es ns
Finds p ss es None = (ns : List ℕ) → Matches p ss es ns → ⊥

-- the same as a test that computes

abbrev pub rises : Before → ℕ → Point → Bool
rises b n follow = nat_le b.events n || (nat_eq (suc n) b.events && (b.assumes && is_assumption follow))

-- of events numbered from n on, none from number `from` on and before number `to` passes an avoid
abbrev pub avoids_from : Program → List Point → ℕ → ℕ → ℕ → List Seen → Bool
avoids_from p avoids from to n [] = true
avoids_from p avoids from to n (e ∷ es) = (nat_lt n from || (nat_le to n || not (passes_any p avoids e.event e.cells))) && avoids_from p avoids from to (suc n) es

abbrev pub matches_from : Program → Before → List BoundSegment → List Seen → List ℕ → Bool
matches_from p b [] es [] = nat_eq b.events (length es)
matches_from p b (s ∷ ss) es (n ∷ ns) =
    seen_passes p (slice_get es n) s.follow && (rises b n s.follow && (avoids_from p s.avoids b.events (suc n) 0 es && matches_from p (record { events = suc n; assumes = is_assumption s.follow }) ss es ns))
matches_from p b [] es (n ∷ ns) = false
matches_from p b (s ∷ ss) es [] = false

abbrev pub matches : Program → List BoundSegment → List Seen → List ℕ → Bool
matches p ss es ns = matches_from p at_start ss es ns
