-- Weights as they are counted: with the tolls of places in maps, and with what functions come to one call less deep.
use Rattle.std.specs.Prelude.{◌≡◌, ℕ, zero, suc, ◌+◌, List, Option, Some, None, slice_get}
use Rattle.c_core.specs.Tree.{Function, Program}
use Rattle.c_core.specs.View.{program_view}
use Rattle.c_core.specs.declared.number.Spot.{Spot}
use Rattle.sym_weight.specs.Tally.{capped, weight_at}
use Rattle.way_match.specs.Points.{Point, BoundSegment}
use Rattle.way_match.specs.View.{each_segment_view}
use Rattle.seek_weight.specs.Tolls.{Happening, AStatement, ATest, ACall, passage, placed_weight, points_of}
use Rattle.seek_weight.specs.SeekWeight.{Count, weights, function_of, count_in}
use Rattle.seek_weight.specs.declared.tolls.Tolls.{Tolls}
use Rattle.seek_weight.specs.declared.walk.Walk.{Walk}

-- what waypoints are counted for at a place
abbrev pub placed_in : Tolls → Happening → Spot → ℕ
placed_in t AStatement at = weight_at t.statements at
placed_in t ATest at = weight_at t.tests at
placed_in t ACall at = weight_at t.calls at

-- these waypoints are counted besides, wherever they are placed
abbrev pub Adds : Program → List Point → Tolls → Tolls → Type 0
Adds p xs old new =
    (h : Happening) (at : Spot) → capped (placed_in new h at) ≡ capped (placed_in old h at + placed_weight p h at xs)

-- the tolls of a witness
pub record AreTolls (p : Program) (ss : List BoundSegment) (t : Tolls) : Type 0 where
  pub passage : t.passage ≡ capped (passage ss)
  pub placed : (h : Happening) (at : Spot) → capped (placed_in t h at) ≡ capped (placed_weight p h at (points_of ss))

-- the number of a function, where there is one
abbrev pub total_in : Option ℕ → ℕ
total_in None = 0
total_in (Some w) = w

abbrev pub total_at : List ℕ → ℕ → ℕ
total_at totals f = total_in (slice_get totals f)

-- what a call counts after its arguments, where calls may be n deep from there
abbrev pub beneath : Program → List BoundSegment → ℕ → ℕ → ℕ → ℕ → ℕ
beneath p ss k zero = λ params f. 0
beneath p ss k (suc n) = λ params f. params + count_in p (weights p ss) k n f

-- what each function comes to, with calls n deep
abbrev pub AreTotals : Program → List BoundSegment → ℕ → ℕ → List ℕ → Type 0
AreTotals p ss k n totals = (f : ℕ) → total_at totals f ≡ capped (count_in p (weights p ss) k n f)

module _ (w : Walk) where
  abbrev pub program_in : Program
  program_in = program_view w.program.now

  abbrev pub segments_in : List BoundSegment
  segments_in = each_segment_view w.segments.now

  -- weights of the program with the segments
  abbrev pub weights_in : Count
  weights_in = weights program_in segments_in

  -- what its calls count after their arguments
  abbrev pub beneath_in : ℕ → ℕ → ℕ
  beneath_in = beneath program_in segments_in w.turns w.depth

-- what the definition of a sum gives in a walk
abbrev pub in_walk : {A : Type 0} → (Program → Count → ℕ → (ℕ → ℕ → ℕ) → A) → Walk → A
in_walk sum w = sum (program_in w) (weights_in w) w.turns (beneath_in w)

-- what a function comes to in a walk
abbrev pub comes_to : Walk → Function → ℕ
comes_to w f = capped (in_walk function_of w (Some f))

-- a walk has the tolls of its segments, and what functions come to one call less deep, where there are calls
pub record IsReady (w : Walk) : Type 0 where
  pub tolls : AreTolls (program_in w) (segments_in w) w.tolls.now
  pub totals : (n : ℕ) → w.depth ≡ suc n → AreTotals (program_in w) (segments_in w) w.turns n w.totals.now
