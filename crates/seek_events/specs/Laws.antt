-- What the circuits follow is what an event does to the segments of a witness.
use Rattle.std.specs.Prelude.{◌≡◌, Bool, false, List, map}
use Rattle.c_core.specs.Tree.{Program}
use Rattle.c_meaning.specs.declared.run.Event.{Event}
use Rattle.c_meaning.specs.Cells.{Cell}
use Rattle.way_match.specs.Points.{BoundSegment}
use Rattle.way_match.specs.Passing.{passes, passes_any, is_assumption}
use Rattle.seek_meaning.specs.Progress.{completed_after, completes_all}
use Rattle.seek_events.specs.Passed.{Passed, completed_from, completes_from}

-- what an event passes of a segment
abbrev pub passed_by : Program → Event → List Cell → BoundSegment → Passed
passed_by p e cells s = record { avoided = passes_any p s.avoids e cells; followed = passes p s.follow e cells; assumes = is_assumption s.follow }

-- over all segments, with what is completed before the event
pub record AreFollowed (p : Program) (ss : List BoundSegment) (e : Event) (cells : List Cell) (bs : List Bool) : Type 0 where
  pub after : completed_from false false (map (passed_by p e cells) ss) bs ≡ completed_after p ss e cells bs
  pub all : completes_from false false (map (passed_by p e cells) ss) bs ≡ completes_all p ss e cells bs
