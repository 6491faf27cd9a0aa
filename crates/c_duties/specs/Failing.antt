-- Where havoc runs may fail, and what the number of a failed obligation says.
use Rattle.std.specs.Prelude.{◌≡◌, ◌<◌, ℕ, suc, ℤ, List, length, Some, slice_get}
use Rattle.std.specs.List.{Contains}
use Rattle.c_core.specs.Tree.{Program}
use Rattle.c_meaning.specs.Acts.{Stop}
use Rattle.c_meaning.specs.Duties.{Placed, Duties}
use Rattle.c_meaning.specs.Havoc.{Fails, Left, Havoc, havoc_in}
use Rattle.c_meaning.specs.declared.run.Duty.{Duty}
use Rattle.c_meaning.specs.declared.run.HavocEnd.TheVariants.{Failed}

-- each havoc run that fails, fails at one of the program's obligations, however deep its calls may go
abbrev pub FailsAtDuties : Program → List Placed → Type 0
FailsAtDuties p I = (n : ℕ) (w : List ℤ) (d : Duty) (s : Left) → havoc_in p I n w ≡ Stop (Fails d) s → Contains (Duties p I) d

-- d stands at this index, and at none before it
pub record IsFirstAt (ds : List Duty) (d : Duty) (index : ℕ) : Type 0 where
  pub within : index < length ds
  pub is : slice_get ds index ≡ Some d
  pub first : (j : ℕ) → j < index → slice_get ds j ≡ Some d → ⊥

-- the havoc run with these draws fails at the obligation of that number, counted from 1
pub record IsFailure (p : Program) (I : List Placed) (w : List ℤ) (number : ℕ) : Type 0 where
  pub failed : Duty
  pub left : Left
  pub run : havoc_in p I (suc (length p.functions)) w ≡ Stop (Fails failed) left
  pub index : ℕ
  pub counted : number ≡ suc index
  pub at : IsFirstAt (Duties p I) failed index

-- a number that is reported is that of an obligation
abbrev pub TellsObligations : Program → List Placed → Type 0
TellsObligations p I = (w : List ℤ) (number : ℕ) → (Havoc p I w).end ≡ Failed number → IsFailure p I w number

-- a run that fails at an obligation tells its number
abbrev pub TellsEach : Program → List Placed → Type 0
TellsEach p I = (w : List ℤ) (d : Duty) (s : Left) (index : ℕ) → havoc_in p I (suc (length p.functions)) w ≡ Stop (Fails d) s → slice_get (Duties p I) index ≡ Some d → (Havoc p I w).end ≡ Failed (suc index)
