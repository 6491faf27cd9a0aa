-- What the failing bit of an obligation tells.
use Rattle.std.specs.Prelude.{◌≡◌, ℕ, suc, ◌≤◌, ◌<◌, ◌^◌, Bool, true, ℤ, List, length, slice_get, Some}
use Rattle.c_core.specs.Tree.{Program}
use Rattle.c_meaning.specs.declared.run.HavocEnd.TheVariants.{Failed}
use Rattle.c_meaning.specs.Duties.{Placed}
use Rattle.c_meaning.specs.Havoc.{Havoc, ObligationHolds}
use Rattle.circuits.specs.declared.net.Bit.{Bit}
use Rattle.circuits.specs.Net.{holds, IsIn, IsNet}
use Rattle.clauses.specs.declared.log.SpentAt.{SpentAt}
use Rattle.sym_duties.specs.declared.obligations.Obligations.{Obligations}
use Rattle.bit_answers.specs.Deciding.{IsNeverTrue, IsSpentOn}
use Rattle.judge_obligations.specs.Verdicts.{AreObligationsOf, IsSpentOver}

-- of the failing bit of the obligation at an index
pub record BitTells (p : Program) (I : List Placed) (o : Obligations) (at : ℕ) (b : Bit) : Type 0 where
  -- it can be decided: it is a bit of the net, which has room for its clauses
  pub inside : IsIn o.net b
  pub room : IsNet o.net → length o.net < 2 ^ 28
  -- where no inputs make it true, the obligation holds; where some do, a havoc run ends at the obligation
  pub passes : IsNeverTrue o.net b → ObligationHolds p I (suc at)
  pub ends : (v : ℕ → Bool) → holds v o.net b ≡ true → (w : List ℤ) × ((Havoc p I w).end ≡ Failed (suc at))
  -- a log that is spent on it is spent over the obligation
  pub spends : (N : ℕ) (s : SpentAt) → 1 ≤ N → IsSpentOn N o.net b s → IsSpentOver N o (suc at) s

-- so do the failing bits of all obligations of a program
abbrev pub FailingBitsTell : Type 0
FailingBitsTell = (p : Program) (I : List Placed) (o : Obligations) → AreObligationsOf p I o → (at : ℕ) (b : Bit) → slice_get o.failing at ≡ Some b → BitTells p I o at b
