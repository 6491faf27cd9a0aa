-- Where the values left for a place lie.
use Rattle.std.specs.Prelude.{◌≡◌, ◌<◌, ℕ, Bool, true, false, ◌||◌, List, [], ◌∷◌, length, take, slice_index_or}
use Rattle.c_core.specs.declared.number.Spot.{Spot}
use Rattle.c_core.specs.Parts.{same_spot}
use Rattle.run_state.specs.declared.machine.LeftAt.{LeftAt}

-- is any at the spot
abbrev pub any_at : Spot → List LeftAt → Bool
any_at spot [] = false
any_at spot (l ∷ ls) = same_spot l.spot spot || any_at spot ls

-- the first at the spot
pub record IsFirst (spot : Spot) (ls : List LeftAt) (i : ℕ) : Type 0 where
  pub within : i < length ls
  pub none_before : any_at spot (take i ls) ≡ false
  pub here : (d : LeftAt) → same_spot (slice_index_or ls i d).spot spot ≡ true
