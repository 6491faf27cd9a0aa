-- What is always true of a matcher's parts.
use Rattle.std.specs.Prelude.{◌≡◌, ℕ, ◌+◌, List, length, Option}
use Rattle.c_core.specs.Tree.{Program}
use Rattle.c_core.specs.declared.number.Spot.{Spot}
use Rattle.way_match.specs.inside.Avoided.{Covers}
use Rattle.way_match.specs.inside.ByPlace.{IsClear, moved, numbers_in}
use Rattle.way_match.specs.inside.Prepared.{all_prepared}
use Rattle.way_match.specs.inside.Resting.{AreStill}
use Rattle.way_match.specs.inside.Turning.{ArePassed}
use Rattle.way_match.specs.View.{each_segment_view}
use Rattle.way_match.specs.declared.avoided.Avoids.{Avoids}
use Rattle.way_match.specs.declared.by_place.ByPlace.{ByPlace}
use Rattle.way_match.specs.declared.point.BoundSegment.{BoundSegment}
use Rattle.way_match.specs.declared.prepared.Prepared.{Prepared}
use Rattle.way_match.specs.declared.states.States.{States}

pub record Shaped (p : Program) (ss : List BoundSegment) (prepared : List Prepared) (by_place : ByPlace) (avoids : Avoids) (states : States) (room : List ℕ) : Type 0 where
  pub prepares : prepared ≡ all_prepared p (each_segment_view ss)
  pub places : (at : Option Spot) → numbers_in by_place at ≡ moved at 0 (each_segment_view ss)
  pub clear : IsClear by_place
  pub covers : Covers (each_segment_view ss) avoids
  -- a state for each number of completed segments, and room for each position
  pub states_each : length states.live.items ≡ length ss + 1
  pub rooms : length room ≡ length ss
  pub passed : ArePassed (each_segment_view ss) states.live.items states.low
  pub still : AreStill states.live.items states.quiet
