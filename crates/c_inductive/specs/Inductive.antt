-- Sets of invariants that hold up together: under the whole set, each of its invariants holds at its statement, or on
-- arrival at its loop and after each turn.
use Rattle.std.specs.Prelude.{◌≡◌, ◌<◌, ℕ, suc, ℤ, Bool, true, false, List, length, Some, slice_get}
use Rattle.c_core.specs.Tree.{Program}
use Rattle.c_meaning.specs.declared.run.Duty.{Duty}
use Rattle.c_meaning.specs.declared.run.DutyKind.{DutyKind}
use Rattle.c_meaning.specs.declared.run.DutyKind.TheVariants.{Location, Entry, Kept, Property}
use Rattle.c_meaning.specs.declared.run.HavocEnd.TheVariants.{Failed}
use Rattle.c_meaning.specs.Duties.{Placed, Duties}
use Rattle.c_meaning.specs.Havoc.{Havoc, ObligationHolds}
use Rattle.c_inductive.specs.Picking.{picked, IsSelection, IsPartOf, IsUnionOf}
use Rattle.c_core.specs.Scope.{is_in}

-- an obligation of an invariant, and none of the property
abbrev pub is_of_invariant : DutyKind → Bool
is_of_invariant Location = true
is_of_invariant Entry = true
is_of_invariant Kept = true
is_of_invariant Property = false

-- with these invariants, every obligation of one of them holds
abbrev pub AreInductive : Program → List Placed → Type 0
AreInductive p I = (index : ℕ) (d : Duty) → slice_get (Duties p I) index ≡ Some d → is_of_invariant d.kind ≡ true
    → ObligationHolds p I (suc index)

-- it is of one of the invariants, counted from 0
pub record NamesInvariant (I : List Placed) (d : Duty) : Type 0 where
  pub number : ℕ
  pub within : number < length I
  pub named : d.invariant ≡ Some number

-- each obligation that is none of the property is of one of these invariants
abbrev pub DutiesNameInvariants : Program → List Placed → Type 0
DutiesNameInvariants p I = (index : ℕ) (d : Duty) → slice_get (Duties p I) index ≡ Some d
    → is_of_invariant d.kind ≡ true → NamesInvariant I d

-- every inductive set of invariants is part of this one
abbrev pub HasEveryInductive : Program → List Placed → List ℕ → Type 0
HasEveryInductive p I ns = (ms : List ℕ) → IsSelection (length I) ms → AreInductive p (picked ms I) → IsPartOf ms ns

-- the greatest inductive set: it is one, and every other is part of it
pub record IsGreatest (p : Program) (I : List Placed) (ns : List ℕ) : Type 0 where
  pub selection : IsSelection (length I) ns
  pub inductive : AreInductive p (picked ns I)
  pub greatest : HasEveryInductive p I ns

-- where an obligation of the k-th invariant of a set fails, counted from 0, no inductive part of the set has that
-- invariant
abbrev pub FailuresDrop : Program → List Placed → Type 0
FailuresDrop p I = (left ms : List ℕ) (w : List ℤ) (index k n : ℕ) (d : Duty)
    → IsSelection (length I) left → (Havoc p (picked left I) w).end ≡ Failed (suc index)
    → slice_get (Duties p (picked left I)) index ≡ Some d → d.invariant ≡ Some k → slice_get left k ≡ Some n
    → IsSelection (length I) ms → IsPartOf ms left → AreInductive p (picked ms I) → is_in n ms ≡ false

-- inductive sets are inductive together
abbrev pub UnionsAreInductive : Program → List Placed → Type 0
UnionsAreInductive p I = (ms ns all : List ℕ) → IsSelection (length I) ms → IsSelection (length I) ns
    → IsSelection (length I) all → IsUnionOf ms ns all
    → AreInductive p (picked ms I) → AreInductive p (picked ns I) → AreInductive p (picked all I)
