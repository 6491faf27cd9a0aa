-- The order of the obligations, and that they differ.
use Rattle.std.specs.Prelude.{◌≡◌, ℕ, List, ◌++◌, Some, slice_get}
use Rattle.std.specs.List.Sorted.{IsPermutation, IsSortedBy, IsStableBy}
use Rattle.c_core.specs.Tree.{Program}
use Rattle.c_meaning.specs.Duties.{Placed, Duties, function_duties, invariant_duties, is_less}
use Rattle.c_meaning.specs.declared.run.Duty.{Duty}

-- the obligations of the invariants in witness order, then those of the functions in the order of the text
abbrev pub unsorted : Program → List Placed → List Duty
unsorted p I = invariant_duties 0 I ++ function_duties p p.functions

-- they are just these, by place and kind; those of one place and kind stand as they stood
pub record AreInOrder (p : Program) (I : List Placed) : Type 0 where
  pub same : IsPermutation (unsorted p I) (Duties p I)
  pub rise : IsSortedBy is_less (Duties p I)
  pub stable : IsStableBy is_less (unsorted p I) (Duties p I)

-- no two are the same
abbrev pub AllDiffer : List Duty → Type 0
AllDiffer ds = (j k : ℕ) (d : Duty) → slice_get ds j ≡ Some d → slice_get ds k ≡ Some d → j ≡ k
