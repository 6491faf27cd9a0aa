-- A run that is matched while it goes.
use Rattle.std.specs.Prelude.{◌≡◌, ℕ, List}
use Rattle.c_core.specs.Tree.{Program}
use Rattle.c_meaning.specs.declared.run.Choices.{Choices}
use Rattle.c_meaning.specs.Run.{Run}
use Rattle.way_match.specs.Matching.{SeenIn, Finds}
use Rattle.way_match.specs.Points.{BoundSegment}
use Rattle.judge.specs.declared.watched.Watched.{Watched}

-- the run with a budget of N steps, and positions exactly where its events match
pub record IsWatched (p : Program) (ss : List BoundSegment) (c : Choices) (N : ℕ) (w : Watched) : Type 0 where
  pub run : w.run ≡ Run p c N
  pub found : Finds p ss (SeenIn p c N) w.found
