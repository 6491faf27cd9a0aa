-- What a watcher has seen where a run was broken off.
use Rattle.std.specs.Prelude.{◌≡◌, List, ◌++◌}
use Rattle.c_meaning.specs.declared.run.Event.{Event}
use Rattle.c_meaning.specs.Cells.{Cell}
use Rattle.c_meaning.specs.Run.{Moment}
use Rattle.c_meaning.specs.Watching.{seen_after}

-- from x on it has seen a front of these moments, and no more
pub record SawFront {S : Type 0} (after : Event → List Cell → S → S) (moments : List Moment) (x y : S) : Type 0 where
  pub front : List Moment
  pub rest : List Moment
  pub split : moments ≡ front ++ rest
  pub saw : y ≡ seen_after after x front
