-- How far the events of a run have passed the segments of a witness: which numbers of segments some fitting positions
-- have completed.
--
-- Number j is true where some fitting positions complete the first j segments and no event since passes an avoid of the
-- next one. The last segment isn't counted: its follow is a target, which the last event passes or none.
use Rattle.std.specs.Prelude.{Bool, true, false, not, ◌&&◌, ◌||◌, List, [], ◌∷◌, length, replicate}
use Rattle.c_core.specs.Tree.{Program}
use Rattle.c_meaning.specs.declared.run.Event.{Event}
use Rattle.c_meaning.specs.Cells.{Cell}
use Rattle.way_match.specs.Points.{BoundSegment}
use Rattle.way_match.specs.Passing.{passes, passes_any, is_assumption}

-- before all events no segment is completed
abbrev pub none_completed : List BoundSegment → List Bool
none_completed [] = []
none_completed (s ∷ ss) = true ∷ replicate (length ss) false

module _ (p : Program) (e : Event) (cells : List Cell) where
  -- the segments before this one stay completed, unless the event passes an avoid of this one
  abbrev pub stays : BoundSegment → Bool → Bool
  stays s completed = completed && not (passes_any p s.avoids e cells)

  -- the event completes this segment too: it passes the follow, and the segments before it stay completed, or it has
  -- just completed them (came) where the follow there (assumes) and the follow here are assumptions, which may share an
  -- event
  abbrev pub completes : Bool → Bool → BoundSegment → Bool → Bool
  completes came assumes s completed =
      passes p s.follow e cells && (stays s completed || (assumes && (is_assumption s.follow && came)))

  -- after the event, which has just completed the segments before these (came), the last of which follows an assumption
  -- (assumes)
  abbrev pub completed_from : Bool → Bool → List BoundSegment → List Bool → List Bool
  completed_from came assumes (s ∷ ss) (b ∷ bs) =
      (stays s b || came) ∷ completed_from (completes came assumes s b) (is_assumption s.follow) ss bs
  completed_from came assumes [] bs = []
  completed_from came assumes (s ∷ ss) [] = []

  -- the event completes all of these
  abbrev pub completes_from : Bool → Bool → List BoundSegment → List Bool → Bool
  completes_from came assumes (s ∷ ss) (b ∷ bs) =
      completes_from (completes came assumes s b) (is_assumption s.follow) ss bs
  completes_from came assumes [] bs = came
  completes_from came assumes (s ∷ ss) [] = false

-- what is completed after an event, by what was before it
abbrev pub completed_after : Program → List BoundSegment → Event → List Cell → List Bool → List Bool
completed_after p ss e cells bs = completed_from p e cells false false ss bs

-- the event completes all segments
abbrev pub completes_all : Program → List BoundSegment → Event → List Cell → List Bool → Bool
completes_all p ss e cells bs = completes_from p e cells false false ss bs
