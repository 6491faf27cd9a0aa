-- The verdict by the end of the given run.
use Rattle.std.specs.Prelude.{ℕ, List, Option}
use Rattle.c_meaning.specs.declared.run.End.{End}
use Rattle.c_meaning.specs.declared.run.End.TheVariants as end
use Rattle.c_meaning.specs.declared.run.Run.{Run as GivenRun}
use Rattle.c_meaning.specs.declared.verdict.Verdict.{Verdict}
use Rattle.c_meaning.specs.declared.verdict.Verdict.TheVariants.{ViolationNot, Undecided}
use Rattle.c_meaning.specs.declared.verdict.Reason.TheVariants.{Ended, Undefined}
use Rattle.c_meaning.specs.declared.verdict.Cause.TheVariants.{Steps, Cells}
use Rattle.way_match.specs.Verdicts.{verdict_at}

-- with a budget of this many steps and the positions found
abbrev pub verdict_at_end : ℕ → GivenRun → Option (List ℕ) → End → Verdict
verdict_at_end steps r found (end.Violated spot) = verdict_at r found
verdict_at_end steps r found end.Ended = ViolationNot Ended r.unfixed
verdict_at_end steps r found (end.Undefined spot) = ViolationNot (Undefined spot) r.unfixed
verdict_at_end steps r found end.Spent = Undecided (Steps steps)
verdict_at_end steps r found end.Deep = Undecided Cells

abbrev pub verdict_by : ℕ → GivenRun → Option (List ℕ) → Verdict
verdict_by steps r found = verdict_at_end steps r found r.end
