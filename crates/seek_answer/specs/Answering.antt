-- What is answered of a search for values.
use Rattle.std.specs.Prelude.{◌≡◌, ◌≤◌, ◌+◌, ℕ, List, length, Some}
use Rattle.bit_answers.specs.Deciding.{IsSpentOn}
use Rattle.c_core.specs.Tree.{Program}
use Rattle.c_draws.specs.declared.places.DrawPlace.{DrawPlace}
use Rattle.c_meaning.specs.declared.run.Draw.{Draw}
use Rattle.c_meaning.specs.Replay.{values_of}
use Rattle.c_meaning.specs.Run.{first_cells, most_cells}
use Rattle.clauses.specs.declared.log.SpentAt.{SpentAt}
use Rattle.judge.specs.declared.watched.Watched.{Watched}
use Rattle.seek_answer.specs.declared.answering.Sought.{Sought}
use Rattle.seek_answer.specs.declared.answering.Sought.TheVariants.{Found, Nothing, Spent}
use Rattle.seek_answer.specs.declared.reach.Reach.{Reach}
use Rattle.seek_answer.specs.Reaching.{IsOpen}
use Rattle.seek_meaning.specs.Sought.{Seeks, NoneAreSought}
use Rattle.seek_meaning.specs.Steps.{StepsWithin}
use Rattle.way_match.specs.Points.{BoundSegment}
use Rattle.way_match.specs.Verdicts.{Violates}

-- the budget of steps of the run that shows what was found
abbrev pub step_budget : ℕ
step_budget = 2000000

-- this budget is enough for each run within the bound, and what its steps may bring to life has room
pub record AreBrief (p : Program) (k : ℕ) : Type 0 where
  pub steps : StepsWithin p k ≤ step_budget
  pub room : length (first_cells p) + StepsWithin p k ≤ most_cells

-- taken in turn the values of the draws are sought: their run stays within the bound, violates the property and matches
-- the segments at these positions; it makes just these draws, and it takes no more steps than that budget
pub record IsFound (p : Program) (ss : List BoundSegment) (k : ℕ) (draws : List Draw) (positions : List ℕ) : Type 0 where
  pub seeks : Seeks p ss k (values_of draws) positions
  pub violates : Violates p ss step_budget draws positions

-- a log that is spent at the budget N over the clauses of the bit, which isn't so for a larger budget than the inputs of
-- the net allow; and main, or a function that main reaches, has an input call or an automatic object without initializer
pub record IsLeftOpen (N : ℕ) (p : Program) (r : Reach) (s : SpentAt) : Type 0 where
  pub spent : IsSpentOn N r.net r.reach s
  pub part : DrawPlace
  pub is_open : IsOpen p part

-- what is answered, with a budget of N conflicts: values that are sought, that none are, or that it is left open
abbrev pub IsAnswer : ℕ → Program → List BoundSegment → ℕ → Reach → Sought → Type 0
IsAnswer N p ss k r (Found draws positions) = IsFound p ss k draws positions
IsAnswer N p ss k r Nothing = NoneAreSought p ss k
IsAnswer N p ss k r (Spent s) = IsLeftOpen N p r s

-- the budget wasn't spent
abbrev pub IsUnspent : Sought → Type 0
IsUnspent (Spent s) = ⊥
IsUnspent answer = Unit {0}

-- ---- on the way

-- the draws of a run that was watched, and the positions that were found
pub record IsShown (w : Watched) (answer : Sought) : Type 0 where
  pub positions : List ℕ
  pub found : w.found ≡ Some positions
  pub shown : answer ≡ Found w.run.draws positions
