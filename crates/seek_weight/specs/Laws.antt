-- What a weight that isn't too big says of the runs within a bound.
use Rattle.std.specs.Prelude.{◌≡◌, ◌≤◌, ◌<◌, ℕ, ℤ, true, List}
use Rattle.c_core.specs.Tree.{Program}
use Rattle.c_meaning.specs.declared.run.End.TheVariants.{Spent}
use Rattle.c_meaning.specs.declared.run.Choices.TheVariants.{InTurn}
use Rattle.way_match.specs.Points.{BoundSegment}
use Rattle.seek_meaning.specs.Bounded.{Within, bounded_end, WholeBounded, HasRoom}
use Rattle.seek_meaning.specs.Seeking.{SeekRun, hits}
use Rattle.seek_meaning.specs.Sought.{IsDecided, IsShownIn}

-- the most steps of a run within a bound that isn't too big: each weighs 4 at least
abbrev pub most_steps : ℕ
most_steps = 500000

-- these values are decided, and that number of steps is enough for the runs on them
pub record IsDecidedWithin (p : Program) (ss : List BoundSegment) (k : ℕ) (w : List ℤ) : Type 0 where
  -- the run that seeks hits exactly where the values are sought
  pub decided : IsDecided p ss k w
  -- where it hits, each run with that number of steps or more shows it
  pub shown : hits (SeekRun p ss k w) ≡ true → (N : ℕ) → most_steps ≤ N → IsShownIn p ss k w N
  -- runs within the bound are spent only with fewer steps, and have room for their cells
  pub short : (N : ℕ) → bounded_end (WholeBounded p k (InTurn w) N) ≡ Within Spent → N < most_steps
  pub room : HasRoom p k w
