-- The right verdict on the invariants of a program.
use Rattle.std.specs.Prelude.{◌≡◌, ℕ, ◌-◌, ◌≤◌, ◌<◌, List, length, slice_get, Option, Some, None}
use Rattle.c_core.specs.Tree.{Program}
use Rattle.c_meaning.specs.declared.run.Draw.{Draw}
use Rattle.c_meaning.specs.declared.run.Duty.{Duty}
use Rattle.c_meaning.specs.declared.run.HavocEnd.TheVariants.{Failed}
use Rattle.c_meaning.specs.declared.verdict.Verdict.{Verdict}
use Rattle.c_meaning.specs.declared.verdict.Verdict.TheVariants.{ViolationConfirmed, ViolationNot, CorrectnessConfirmed, CorrectnessNot, Undecided}
use Rattle.c_meaning.specs.declared.verdict.Cause.TheVariants.{Steps, Cells, Conflicts}
use Rattle.c_meaning.specs.Duties.{Placed, Duties}
use Rattle.c_meaning.specs.Havoc.{Havoc, ObligationHolds}
use Rattle.c_meaning.specs.Replay.{values_of}
use Rattle.circuits.specs.declared.net.Bit.{Bit}
use Rattle.circuits.specs.Net.{count_inputs}
use Rattle.clauses.specs.declared.log.SpentAt.{SpentAt}
use Rattle.clauses.specs.Tseitin.{ClausesOf}
use Rattle.clauses.specs.Spent.{IsSpent}
use Rattle.sym_duties.specs.declared.obligations.Obligations.{Obligations}
use Rattle.sym_duties.specs.Promise.{AreObligations}
use Rattle.sym_weight.specs.Weight.{Weight, Bits}

-- the obligations 1 to n hold
abbrev pub HoldUpTo : Program → List Placed → ℕ → Type 0
HoldUpTo p I n = (i : ℕ) → 0 < i → i ≤ n → ObligationHolds p I i

-- all obligations hold, and this is how many they are
pub record AllHold (p : Program) (I : List Placed) (count : ℕ) : Type 0 where
  pub counted : count ≡ length (Duties p I)
  pub hold : HoldUpTo p I count

-- obligation i is the least that fails: the havoc run on the values of these draws makes just these draws, and ends there
pub record FailsFirst (p : Program) (I : List Placed) (i : ℕ) (duty : Duty) (draws : List Draw) : Type 0 where
  pub real : 0 < i
  pub named : slice_get (Duties p I) (i - 1) ≡ Some duty
  pub before : HoldUpTo p I (i - 1)
  pub ends : (Havoc p I (values_of draws)).end ≡ Failed i
  pub makes : (Havoc p I (values_of draws)).draws ≡ draws

-- the program's obligations as a net that is within the program's weight, and draws no more bits than the program
abbrev pub AreObligationsOf : Program → List Placed → Obligations → Type 0
AreObligationsOf p I o = AreObligations p I (Weight p I) (Bits p) o

-- a log spent at N over the clauses of failing bit i, of a net that draws
pub record IsSpentOver (N : ℕ) (o : Obligations) (i : ℕ) (s : SpentAt) : Type 0 where
  pub bit : Bit
  pub named : slice_get o.failing (i - 1) ≡ Some bit
  pub clauses : ClausesOf o.net bit s.clauses.variables s.clauses.clauses
  pub log : IsSpent s.clauses.variables s.clauses.clauses s.log.chains N
  pub draws : 0 < count_inputs o.net

-- the obligations before i hold, and a budget of N was spent on obligation i
pub record IsUndecidedAt (N : ℕ) (p : Program) (I : List Placed) (i count : ℕ) : Type 0 where
  pub budget : count ≡ N
  pub real : 0 < i
  pub before : HoldUpTo p I (i - 1)
  pub obligations : Obligations
  pub promised : AreObligationsOf p I obligations
  pub spent : SpentAt
  pub over : IsSpentOver N obligations i spent

-- the right verdict, with a budget of N conflicts for each obligation
abbrev pub IsRightOnInvariants : ℕ → Program → List Placed → Verdict → Type 0
IsRightOnInvariants N p I (CorrectnessConfirmed count) = AllHold p I count
IsRightOnInvariants N p I (CorrectnessNot i duty draws) = FailsFirst p I i duty draws
IsRightOnInvariants N p I (Undecided (Conflicts i count)) = IsUndecidedAt N p I i count
IsRightOnInvariants N p I (Undecided (Steps n)) = ⊥
IsRightOnInvariants N p I (Undecided Cells) = ⊥
IsRightOnInvariants N p I (ViolationConfirmed draws positions) = ⊥
IsRightOnInvariants N p I (ViolationNot reason unfixed) = ⊥

-- what is kept beside a verdict: the clauses and the spent log exactly where it is undecided
abbrev pub IsKept : ℕ → Obligations → Verdict → Option SpentAt → Type 0
IsKept N o (Undecided (Conflicts i count)) (Some s) = IsSpentOver N o i s
IsKept N o (Undecided cause) None = ⊥
IsKept N o verdict None = Unit {0}
IsKept N o verdict (Some s) = ⊥

-- the budget wasn't spent
abbrev pub IsDecided : Verdict → Type 0
IsDecided (Undecided cause) = ⊥
IsDecided verdict = Unit {0}

-- the same verdict, but for the draws that it shows
abbrev pub AreSameButDraws : Verdict → Verdict → Type 0
AreSameButDraws (CorrectnessConfirmed m) (CorrectnessConfirmed n) = m ≡ n
AreSameButDraws (CorrectnessNot i duty draws) (CorrectnessNot j other shown) = (i ≡ j) × (duty ≡ other)
AreSameButDraws _ _ = ⊥

-- where no budget is spent, one verdict alone is right
abbrev pub OneAnswer : Type 0
OneAnswer = (N M : ℕ) (p : Program) (I : List Placed) (a b : Verdict) → IsRightOnInvariants N p I a → IsRightOnInvariants M p I b → IsDecided a → IsDecided b → AreSameButDraws a b
