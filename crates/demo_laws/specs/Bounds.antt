-- The bounds of a demo's loops.
use Rattle.std.specs.Prelude.{ℕ, ◌≤◌, List, length}
use Rattle.std.specs.List.{AllByRecursion}
use Rattle.wv_author.specs.Sequence.{loop_count}

-- from 1 to 100
pub record IsBound (b : ℕ) : Type 0 where
  pub some : 1 ≤ b
  pub few : b ≤ 100

-- of no more loops than a demo has
pub record AreBounds (bs : List ℕ) : Type 0 where
  pub each : AllByRecursion IsBound bs
  pub few : length bs ≤ loop_count
