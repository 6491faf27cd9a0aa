-- What weeding ends with, where nothing is dropped any more.
use Rattle.std.specs.Prelude.{◌≡◌, ℕ, List, Option, Some, None}
use Rattle.wv_weed.specs.declared.rounds.Open.{Open}
use Rattle.wv_weed.specs.declared.weeding.Weeded.{Weeded}
use Rattle.wv_weed.specs.declared.weeding.Weeded.TheVariants.{Kept, Spent}

-- what is left is kept, or one obligation is open
abbrev pub IsEnd : List ℕ → Option Open → Weeded → Type 0
IsEnd left None weeded = weeded ≡ Kept left
IsEnd left (Some first) weeded = weeded ≡ Spent left first.number first.at
