-- What an answer on a program with invariants says.
use Rattle.std.specs.Prelude.{ℕ, ◌+◌, ◌-◌, ◌<◌, ◌^◌, List}
use Rattle.c_core.specs.Tree.{Program}
use Rattle.c_lifting.specs.Lifting.{Lifted}
use Rattle.c_meaning.specs.Duties.{Placed}
use Rattle.c_meaning.specs.declared.verdict.Verdict.{Verdict}
use Rattle.c_meaning.specs.declared.verdict.Verdict.TheVariants.{CorrectnessConfirmed}
use Rattle.sym_duties.specs.declared.obligations.Obligations.{Obligations}
use Rattle.sym_weight.specs.Weight.{Bits}
use Rattle.judge_obligations.specs.Verdicts.{AreObligationsOf, IsKept, IsDecided}
use Rattle.judge_obligations.specs.declared.judging.Judged.{Judged}

-- where correctness is confirmed, no run violates the property, whatever its inputs and however many its steps, and each invariant
-- holds whenever its place is reached
abbrev pub IsConfirmed : Program → List Placed → Verdict → Type 0
IsConfirmed p I (CorrectnessConfirmed count) = Lifted p I
IsConfirmed p I verdict = Unit {0}

-- the net that was judged: clauses and a spent log over it are kept exactly where the verdict is undecided
pub record IsKeptOf (N : ℕ) (p : Program) (I : List Placed) (judged : Judged) : Type 0 where
  pub obligations : Obligations
  pub promised : AreObligationsOf p I obligations
  pub kept : IsKept N obligations judged.verdict judged.spent

-- with a budget beyond what the bits allow that the program draws, each verdict is decided
abbrev pub IsDecidedBeyond : ℕ → Program → Verdict → Type 0
IsDecidedBeyond N p verdict = 2 ^ (Bits p + 1) - 2 < N → IsDecided verdict
