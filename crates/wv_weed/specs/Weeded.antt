-- The greatest inductive set among the invariants of a program, or where the budget was spent on the way to it.
use Rattle.std.specs.Prelude.{◌≡◌, ℕ, ◌+◌, ◌-◌, ◌≤◌, ◌<◌, ◌^◌, true, List, length, Some, slice_get, Result, Ok, Err}
use Rattle.c_core.specs.Tree.{Program}
use Rattle.c_inductive.specs.Inductive.{HasEveryInductive, IsGreatest, is_of_invariant}
use Rattle.c_inductive.specs.Picking.{IsSelection, picked}
use Rattle.c_meaning.specs.declared.run.Duty.{Duty}
use Rattle.c_meaning.specs.Duties.{Duties, Placed}
use Rattle.clauses.specs.declared.log.SpentAt.{SpentAt}
use Rattle.judge_obligations.specs.Verdicts.{AreObligationsOf, IsSpentOver}
use Rattle.sym_duties.specs.Answers.{CanBeJudged, IsFault}
use Rattle.sym_duties.specs.declared.fault.SymFault.{SymFault}
use Rattle.sym_duties.specs.declared.obligations.Obligations.{Obligations}
use Rattle.sym_weight.specs.Weight.{Bits}
use Rattle.wv_weed.specs.declared.weeding.Weeded.{Weeded}
use Rattle.wv_weed.specs.declared.weeding.Weeded.TheVariants.{Kept, Spent}

-- the invariants that are left hold every inductive set; an obligation of one of them, by its number from 1, is open: a
-- budget of N was spent on it
pub record IsOpenAt (N : ℕ) (p : Program) (I : List Placed) (left : List ℕ) (number : ℕ) (at : SpentAt) : Type 0 where
  pub selection : IsSelection (length I) left
  pub holding : HasEveryInductive p I left
  pub real : 0 < number
  pub duty : Duty
  pub named : slice_get (Duties p (picked left I)) (number - 1) ≡ Some duty
  pub of_invariant : is_of_invariant duty.kind ≡ true
  pub obligations : Obligations
  pub promised : AreObligationsOf p (picked left I) obligations
  pub over : IsSpentOver N obligations number at
  pub bounded : N ≤ 2 ^ (Bits p + 1) - 2

-- the greatest inductive set, or what is left and open
abbrev pub IsWeeded : ℕ → Program → List Placed → Weeded → Type 0
IsWeeded N p I (Kept ns) = IsGreatest p I ns
IsWeeded N p I (Spent left number at) = IsOpenAt N p I left number at

-- the answer: why the obligations of the whole list can't be judged, or else the result of weeding
abbrev pub Weeds : ℕ → Program → List (List ℕ) → List Placed → Result Weeded SymFault → Type 0
Weeds N p names I (Ok weeded) = CanBeJudged p I × IsWeeded N p I weeded
Weeds N p names I (Err fault) = IsFault p names I fault
