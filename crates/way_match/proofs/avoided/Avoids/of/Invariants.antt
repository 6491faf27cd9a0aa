use Rattle.std.proofs.Common.{◌≡◌, ℕ, ◌<◌, Some}
use Rattle.way_match.specs.Points.{Point}
use Rattle.way_match.specs.View.{each_segment_view}
use Rattle.way_match.specs.inside.Avoided.{avoid_at, StandsThere}
use Rattle.way_match.proofs.avoided.Avoids.of.Given as goal

abbrev pub invariant-loop-number : goal.invariant-loop-number
invariant-loop-number l = (k i : ℕ) (x : Point) → k < l.number → avoid_at (each_segment_view l.segments) k i ≡ Some x → StandsThere (each_segment_view l.segments) l.found k x
