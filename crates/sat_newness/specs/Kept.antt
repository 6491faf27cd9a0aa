-- What a search that keeps all clauses comes to.
use Rattle.std.specs.Prelude.{◌≡◌, ℕ, ◌+◌, List, length, ℤ}
use Rattle.clauses.specs.declared.log.Chain.{Chain}
use Rattle.clauses.specs.Log.{given}
use Rattle.clauses.specs.Spent.{AreNew, IsSpent}
use Rattle.sat_newness.specs.declared.pairs.Pair.{Pair}
use Rattle.sat_newness.specs.declared.spent.Kept.{Kept}
use Rattle.sat_newness.specs.declared.spent.Kept.TheVariants.{Spent, Other}
use Rattle.sat_newness.specs.Clauses.{clauses_of}
use Rattle.sat_newness.specs.Pairs.{ArePairs}

-- a spent log, or anything
abbrev pub IsKept : ℕ → List (List ℤ) → ℕ → Kept → Type 0
IsKept variables clauses budget (Spent log) = IsSpent variables clauses log.chains budget
IsKept variables clauses budget (Other outcome) = Unit {0}

-- ---- on the way

-- a log of new clauses, with a pair for each clause that it rests on
pub record IsNewLog (clauses : List (List ℤ)) (chains : List Chain) (pairs : List Pair) : Type 0 where
  pub many : length pairs ≡ length clauses + length chains
  pub held : ArePairs (clauses_of clauses chains) pairs
  pub fresh : AreNew clauses (given chains)

-- the same with a chain more
pub record IsLonger (clauses : List (List ℤ)) (before after : List Chain) (pairs : List Pair) : Type 0 where
  pub more : length after ≡ length before + 1
  pub log : IsNewLog clauses after pairs

-- as many chains as the budget, each of which gives a new clause, or anything
abbrev pub IsAllNew : List (List ℤ) → ℕ → Kept → Type 0
IsAllNew clauses budget (Spent log) = (length log.chains ≡ budget) × AreNew clauses (given log.chains)
IsAllNew clauses budget (Other outcome) = Unit {0}
