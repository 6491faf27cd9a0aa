use Rattle.std.proofs.Common.{◌≡◌, ℕ, ◌<◌, Some}
use Rattle.c_core.specs.declared.number.Spot.{Spot}
use Rattle.way_match.specs.Points.{Point}
use Rattle.way_match.specs.View.{each_segment_view}
use Rattle.way_match.specs.inside.Avoided.{avoid_at, avoids_in, Longer, StandsThere}
use Rattle.way_match.proofs.avoided.Avoids.add_each.Given as goal

abbrev pub invariant-loop-at : goal.invariant-loop-at
invariant-loop-at l = record {
  longer : (q : Spot) → Longer (avoids_in l.fn.self q) (avoids_in l.self q);
  there : (i : ℕ) (x : Point) → i < l.at → avoid_at (each_segment_view l.segments) l.number i ≡ Some x → StandsThere (each_segment_view l.segments) l.self l.number x;
}
