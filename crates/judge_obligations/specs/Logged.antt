-- All obligations shown by logs, or another verdict.
use Rattle.std.specs.Prelude.{◌≡◌, ℕ, List, length, slice_get, Option, Some, None}
use Rattle.std.specs.List.{All}
use Rattle.c_core.specs.Tree.{Program}
use Rattle.c_meaning.specs.declared.verdict.Verdict.{Verdict}
use Rattle.c_meaning.specs.declared.verdict.Verdict.TheVariants.{CorrectnessConfirmed}
use Rattle.c_meaning.specs.Duties.{Placed}
use Rattle.circuits.specs.declared.net.Bit.{Bit}
use Rattle.clauses.specs.Accepted.{Accepted, AreRefuted}
use Rattle.clauses.specs.declared.log.Refutation.{Refutation}
use Rattle.sym_duties.specs.declared.obligations.Obligations.{Obligations}
use Rattle.judge_obligations.specs.declared.judging.Judged.{Judged}
use Rattle.judge_obligations.specs.declared.judging.Settled.{Settled}
use Rattle.judge_obligations.specs.declared.judging.Settled.TheVariants.{Holds, Ends}
use Rattle.judge_obligations.specs.declared.logged.Logged.{Logged}
use Rattle.judge_obligations.specs.declared.logged.Logged.TheVariants.{Proved, Other}
use Rattle.bit_answers.specs.Deciding.{IsNeverTrue, IsShort, IsShownBy}
use Rattle.judge_obligations.specs.Deciding.{AreNeverTrue}
use Rattle.judge_obligations.specs.Verdicts.{AllHold, IsRightOnInvariants, IsKept, IsDecided}

-- a short log for each obligation, which refutes the clauses of its failing bit; and the obligations hold
pub record AreProved (N : ℕ) (p : Program) (I : List Placed) (o : Obligations) (logs : List Refutation) : Type 0 where
  pub accepted : Accepted o.net o.failing logs
  pub short : All (IsShort N) logs
  pub hold : AllHold p I (length logs)

-- it doesn't confirm correctness
abbrev pub IsUnconfirmed : Verdict → Type 0
IsUnconfirmed (CorrectnessConfirmed count) = ⊥
IsUnconfirmed verdict = Unit {0}

-- the right verdict with what is kept beside it, where it doesn't confirm correctness
pub record IsOther (N : ℕ) (p : Program) (I : List Placed) (o : Obligations) (judged : Judged) : Type 0 where
  pub right : IsRightOnInvariants N p I judged.verdict
  pub kept : IsKept N o judged.verdict judged.spent
  pub unconfirmed : IsUnconfirmed judged.verdict

-- a log for each obligation where all hold, or the right verdict
abbrev pub IsLogged : ℕ → Program → List Placed → Obligations → Logged → Type 0
IsLogged N p I o (Proved logs) = AreProved N p I o logs
IsLogged N p I o (Other judged) = IsOther N p I o judged

-- no budget was spent
abbrev pub IsUnspent : Logged → Type 0
IsUnspent (Proved logs) = Unit {0}
IsUnspent (Other judged) = IsDecided judged.verdict

-- ---- on the way

-- a short log for each of the first n obligations, and their failing bits are never true
pub record AreKept (N : ℕ) (o : Obligations) (n : ℕ) (logs : List Refutation) : Type 0 where
  pub many : length logs ≡ n
  pub refuted : AreRefuted o.net o.failing logs n
  pub short : All (IsShort N) logs
  pub none : AreNeverTrue o.net o.failing n

-- the obligation at an index holds by a log, or the verdict ends there
abbrev pub IsSettledAs : ℕ → Program → List Placed → Obligations → ℕ → Settled → Type 0
IsSettledAs N p I o at (Holds log) = (b : Bit) → slice_get o.failing at ≡ Some b → IsShownBy N o.net b log
IsSettledAs N p I o at (Ends judged) = IsOther N p I o judged

-- no budget was spent on it
abbrev pub IsSettledUnspent : Settled → Type 0
IsSettledUnspent (Holds log) = Unit {0}
IsSettledUnspent (Ends judged) = IsDecided judged.verdict

-- the obligation at an index holds, or the verdict ends there
abbrev pub IsPassedAs : ℕ → Program → List Placed → Obligations → ℕ → Option Judged → Type 0
IsPassedAs N p I o at None = (b : Bit) → slice_get o.failing at ≡ Some b → IsNeverTrue o.net b
IsPassedAs N p I o at (Some judged) = IsOther N p I o judged

-- no budget was spent on it
abbrev pub IsPassedUnspent : Option Judged → Type 0
IsPassedUnspent None = Unit {0}
IsPassedUnspent (Some judged) = IsDecided judged.verdict
