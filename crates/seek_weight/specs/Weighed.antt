-- What is reported of a program, the segments of a witness and a bound: how much the runs weigh, or that it is too much.
use Rattle.std.specs.Prelude.{◌≡◌, ℕ, List, Option, Some, None, cond, nat_le}
use Rattle.c_core.specs.Tree.{Program}
use Rattle.way_match.specs.Points.{BoundSegment}
use Rattle.sym_weight.specs.Weight.{most_weight}
use Rattle.seek_weight.specs.SeekWeight.{SeekWeight, IsTooBigToSeek}

-- the weight, which isn't too big
pub record IsSeekWeight (p : Program) (ss : List BoundSegment) (k w : ℕ) : Type 0 where
  pub weight : w ≡ SeekWeight p ss k
  pub fits : IsTooBigToSeek p ss k → ⊥

abbrev pub WeighsToSeek : Program → List BoundSegment → ℕ → Option ℕ → Type 0
WeighsToSeek p ss k None = IsTooBigToSeek p ss k
WeighsToSeek p ss k (Some w) = IsSeekWeight p ss k w

-- within the limit
abbrev pub judged : ℕ → Option ℕ
judged w = cond (nat_le w most_weight) (Some w) None
