-- The budgets that the command line lets through.
use Rattle.std.specs.Prelude.{◌≤◌, ℕ, Option, Some, None}
use Rattle.wv_arguments.specs.Arguments.{most_conflicts, most_number, most_turns}
use Rattle.wv_arguments.specs.Words.{Budgets, Wanted, Validate, Show, Normalise, Demo, Certify, Recheck, Author, Weed, Seek}
use Rattle.witval.specs.Purposes.{Purpose, Judging, Certifying, Rechecking, Weeding, Seeking, Work, ToJudge, ToCertify, ToRecheck, ToWeed, ToSeek}

-- a budget of conflicts is within its range
pub record IsBudget (conflicts : ℕ) : Type 0 where
  pub some : 1 ≤ conflicts
  pub bounded : conflicts ≤ most_conflicts

-- the budget of conflicts is within its range
pub record IsAllowed (budgets : Budgets) : Type 0 where
  pub some : 1 ≤ budgets.conflicts
  pub bounded : budgets.conflicts ≤ most_conflicts

-- the bound on turns and calls and the budget of conflicts of a search are within their ranges
pub record IsSearch (turns conflicts : ℕ) : Type 0 where
  pub within : turns ≤ most_turns
  pub some : 1 ≤ conflicts
  pub bounded : conflicts ≤ most_conflicts

-- a verdict, a demo of a number in its range, a certificate, weeded invariants or values are wanted with such budgets
abbrev pub AreAllowed : Option Wanted → Type 0
AreAllowed None = Unit {0}
AreAllowed (Some (Validate command budgets)) = IsAllowed budgets
AreAllowed (Some (Show name)) = Unit {0}
AreAllowed (Some (Normalise name)) = Unit {0}
AreAllowed (Some (Demo number budgets)) = (number ≤ most_number) × IsAllowed budgets
AreAllowed (Some (Certify command conflicts)) = IsBudget conflicts
AreAllowed (Some (Recheck command certificate)) = Unit {0}
AreAllowed (Some (Author sources label steps)) = Unit {0}
AreAllowed (Some (Weed command conflicts)) = IsBudget conflicts
AreAllowed (Some (Seek command turns conflicts)) = IsSearch turns conflicts

-- the same of a purpose
abbrev pub AllowsPurpose : Purpose → Type 0
AllowsPurpose (Judging budgets) = IsAllowed budgets
AllowsPurpose (Certifying conflicts) = IsBudget conflicts
AllowsPurpose (Rechecking bytes) = Unit {0}
AllowsPurpose (Weeding conflicts) = IsBudget conflicts
AllowsPurpose (Seeking turns conflicts) = IsSearch turns conflicts

-- and of what is to be done
abbrev pub AllowsWork : Work → Type 0
AllowsWork (ToJudge budgets) = IsAllowed budgets
AllowsWork (ToCertify conflicts) = IsBudget conflicts
AllowsWork (ToRecheck logs) = Unit {0}
AllowsWork (ToWeed conflicts) = IsBudget conflicts
AllowsWork (ToSeek turns conflicts) = IsSearch turns conflicts
