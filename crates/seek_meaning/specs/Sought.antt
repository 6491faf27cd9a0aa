-- The values that are sought, and the laws on the runs that find them.
use Rattle.std.specs.Prelude.{◌≡◌, ◌↔◌, ℕ, ℤ, true, List}
use Rattle.c_core.specs.Tree.{Program}
use Rattle.c_meaning.specs.declared.run.Choices.{Choices}
use Rattle.c_meaning.specs.declared.run.Choices.TheVariants.{InTurn}
use Rattle.c_meaning.specs.Run.{Run, Whole, state_of}
use Rattle.way_match.specs.Points.{BoundSegment}
use Rattle.way_match.specs.Matching.{SeenIn, Matches}
use Rattle.seek_meaning.specs.Bounded.{Within, bounded_end, WholeBounded, IsBounded}
use Rattle.seek_meaning.specs.Seeking.{SeekRun, hits, draws_sought}

-- a run within the bound k on these values violates the property, and its events match the segments at these positions
pub record Seeks (p : Program) (ss : List BoundSegment) (k : ℕ) (w : List ℤ) (positions : List ℕ) : Type 0 where
  pub bounded : IsBounded p k w
  pub matched : Matches p ss (SeenIn p (InTurn w) bounded.budget) positions

-- some positions do
abbrev pub AreSought : Program → List BoundSegment → ℕ → List ℤ → Type 0
AreSought p ss k w = (positions : List ℕ) × Seeks p ss k w positions

-- the run with N steps on these values is such a run
pub record IsShownIn (p : Program) (ss : List BoundSegment) (k : ℕ) (w : List ℤ) (N : ℕ) : Type 0 where
  pub positions : List ℕ
  pub found : Seeks p ss k w positions
  pub budget : found.bounded.budget ≡ N

-- no values are sought within the bound
abbrev pub NoneAreSought : Program → List BoundSegment → ℕ → Type 0
NoneAreSought p ss k = (w : List ℤ) → AreSought p ss k w → ⊥

-- a run that no bound cuts: the run with a bound ends as it does, in the same state, with the same moments and draws
pub record IsTheRun (p : Program) (k : ℕ) (c : Choices) (N : ℕ) : Type 0 where
  pub end : bounded_end (WholeBounded p k c N) ≡ Within (Run p c N).end
  pub state : state_of (WholeBounded p k c N) ≡ state_of (Whole p c N)

-- the run that seeks decides about its values
pub record IsDecided (p : Program) (ss : List BoundSegment) (k : ℕ) (w : List ℤ) : Type 0 where
  -- it hits exactly where the values are sought
  pub exact : (hits (SeekRun p ss k w) ≡ true) ↔ AreSought p ss k w
  -- and then it draws what the run draws
  pub draws : (positions : List ℕ) (found : Seeks p ss k w positions)
      → draws_sought (SeekRun p ss k w) ≡ (Run p (InTurn w) found.bounded.budget).draws
