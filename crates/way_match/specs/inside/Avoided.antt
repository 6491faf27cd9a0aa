-- The distinct waypoints to avoid at each place.
use Rattle.std.specs.Prelude.{◌≡◌, ℕ, ◌≤◌, true, List, [], ◌++◌, Option, Some, None, slice_get}
use Rattle.std.specs.BTreeMap.{get}
use Rattle.std.specs.declared.vec.Vec.{Vec}
use Rattle.std.specs.declared.alloc.Global.{Global}
use Rattle.c_core.specs.declared.number.Spot.{Spot}
use Rattle.way_match.specs.Points as pure
use Rattle.way_match.specs.Points.{BoundSegment}
use Rattle.way_match.specs.View.{point_view}
use Rattle.way_match.specs.declared.point.Point.{Point}
use Rattle.way_match.specs.inside.ByPlace.{may_pass, spot_cmp}
use Rattle.way_match.specs.declared.prepared.Prepared.{Prepared}
use Rattle.way_match.specs.declared.prepared.Ready.{Ready}
use Rattle.way_match.specs.declared.avoided.Avoided.{Avoided}
use Rattle.way_match.specs.declared.avoided.Avoids.{Avoids}

-- a waypoint, where there is one
abbrev pub point_view_if : Option Point → Option pure.Point
point_view_if None = None
point_view_if (Some x) = Some (point_view x)

abbrev pub avoid_of : Option BoundSegment → ℕ → Option pure.Point
avoid_of None i = None
avoid_of (Some s) i = slice_get s.avoids i

-- waypoint number i to avoid of segment number k
abbrev pub avoid_at : List BoundSegment → ℕ → ℕ → Option pure.Point
avoid_at ss k i = avoid_of (slice_get ss k) i

abbrev pub ready_in : Option Prepared → ℕ → Option Ready
ready_in None i = None
ready_in (Some prepared) i = slice_get prepared.avoids i

-- what is prepared for it
abbrev pub ready_at : List Prepared → ℕ → ℕ → Option Ready
ready_at prepared k i = ready_in (slice_get prepared k) i

abbrev pub avoided_if : Option (Vec Avoided Global) → List Avoided
avoided_if None = []
avoided_if (Some list) = list.items

-- those that stand for all at a place
abbrev pub avoids_in : Avoids → Spot → List Avoided
avoids_in m spot = avoided_if (get spot_cmp m.placed (spot.line, spot.column))

-- more stand behind
abbrev pub Longer : List Avoided → List Avoided → Type 0
Longer xs ys = (more : List Avoided) × (ys ≡ xs ++ more)

-- one of these is that waypoint, in segment number k or in one before
abbrev pub Stands : List BoundSegment → List Avoided → ℕ → pure.Point → Type 0
Stands ss entries k x =
    (j : ℕ) × (a : Avoided) × (slice_get entries j ≡ Some a) × (a.segment ≤ k) × (avoid_at ss a.segment a.at ≡ Some x)

-- at each place where an event may pass it
abbrev pub StandsThere : List BoundSegment → Avoids → ℕ → pure.Point → Type 0
StandsThere ss m k x = (spot : Spot) → may_pass (Some spot) x ≡ true → Stands ss (avoids_in m spot) k x

-- each waypoint to avoid does
abbrev pub Covers : List BoundSegment → Avoids → Type 0
Covers ss m = (k i : ℕ) (x : pure.Point) → avoid_at ss k i ≡ Some x → StandsThere ss m k x

-- each one that an event at a place may pass is among these
abbrev pub CoversAt : List BoundSegment → Option Spot → List Avoided → Type 0
CoversAt ss at there = (k i : ℕ) (x : pure.Point) → avoid_at ss k i ≡ Some x → may_pass at x ≡ true → Stands ss there k x
