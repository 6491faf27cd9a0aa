-- What an answer is made of.
use Rattle.std.specs.Prelude.{◌≡◌, ℕ, ◌+◌, List, slice_get, Some, None}
use Rattle.c_meaning.specs.declared.run.Draw.{Draw}
use Rattle.c_meaning.specs.declared.run.Duty.{Duty}
use Rattle.c_meaning.specs.declared.verdict.Verdict.TheVariants.{CorrectnessNot, Undecided}
use Rattle.c_meaning.specs.declared.verdict.Cause.TheVariants.{Conflicts}
use Rattle.clauses.specs.declared.log.SpentAt.{SpentAt}
use Rattle.judge_obligations.specs.declared.judging.Judged.{Judged}

-- the obligation at an index is reported with these draws
pub record IsShown (list : List Duty) (at : ℕ) (draws : List Draw) (judged : Judged) : Type 0 where
  pub duty : Duty
  pub named : slice_get list at ≡ Some duty
  pub verdict : judged.verdict ≡ CorrectnessNot (at + 1) duty draws
  pub spent : judged.spent ≡ None

-- the obligation at an index is left open, and this is kept of it
pub record IsLeftOpen (at conflicts : ℕ) (kept : SpentAt) (judged : Judged) : Type 0 where
  pub verdict : judged.verdict ≡ Undecided (Conflicts (at + 1) conflicts)
  pub spent : judged.spent ≡ Some kept
