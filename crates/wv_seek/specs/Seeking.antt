-- What comes of a search for values: the net of all runs within a bound, and the answer that it gives.
use Rattle.std.specs.Prelude.{◌<◌, ◌+◌, ◌-◌, ◌^◌, ℕ, List, Result, Ok, Err}
use Rattle.c_core.specs.Tree.{Program}
use Rattle.seek_answer.specs.Answering.{IsAnswer, IsUnspent}
use Rattle.seek_answer.specs.Reaching.{IsReach, TellsSought}
use Rattle.seek_answer.specs.declared.answering.Sought.{Sought}
use Rattle.seek_answer.specs.declared.reach.Reach.{Reach}
use Rattle.seek_weight.specs.SeekWeight.{SeekWeight, SeekBits, IsTooBigToSeek}
use Rattle.way_match.specs.Points.{BoundSegment}
use Rattle.wv_seek.specs.declared.fault.SeekFault.{SeekFault}
use Rattle.wv_seek.specs.declared.fault.SeekFault.TheVariants.{TooBig, OutOfMemory}

-- why nothing is sought
abbrev pub IsSeekFault : Program → List BoundSegment → ℕ → SeekFault → Type 0
IsSeekFault p ss k TooBig = IsTooBigToSeek p ss k
IsSeekFault p ss k OutOfMemory = Unit {0}

-- the net of all runs within the bound
pub record IsUnrolled (p : Program) (ss : List BoundSegment) (k : ℕ) (r : Reach) : Type 0 where
  -- they aren't too heavy
  pub fits : IsTooBigToSeek p ss k → ⊥
  -- its bit is their hit; it has no more and-nodes than they weigh and no more inputs than they draw bits
  pub reach : IsReach p ss k (SeekWeight p ss k) (SeekBits p k) r
  -- under every input the bit is true exactly where the values of the live sites in order are sought; then they are the
  -- draws of that run; and values that are sought make it true under some inputs
  pub tells : TellsSought p ss k r

-- the net, or why there is none
abbrev pub UnrollsTo : Program → List BoundSegment → ℕ → Result Reach SeekFault → Type 0
UnrollsTo p ss k (Ok r) = IsUnrolled p ss k r
UnrollsTo p ss k (Err fault) = IsSeekFault p ss k fault

-- the answer of a search with a budget of N conflicts, by such a net
pub record IsSearched (N : ℕ) (p : Program) (ss : List BoundSegment) (k : ℕ) (answer : Sought) : Type 0 where
  pub reach : Reach
  pub unrolled : IsUnrolled p ss k reach
  -- values that are sought, with the positions; that none are; or a log that is spent at the budget
  pub right : IsAnswer N p ss k reach answer
  -- a budget beyond what the drawn bits allow isn't spent
  pub decided : 2 ^ (SeekBits p k + 1) - 2 < N → IsUnspent answer

-- the answer of a search, or why there is none
abbrev pub SearchAnswers : ℕ → Program → List BoundSegment → ℕ → Result Sought SeekFault → Type 0
SearchAnswers N p ss k (Ok answer) = IsSearched N p ss k answer
SearchAnswers N p ss k (Err fault) = IsSeekFault p ss k fault
