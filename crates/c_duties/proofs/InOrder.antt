-- The obligations stand in their order.
use Rattle.std.proofs.Common.{◌≡◌, ℕ, zero, suc, ◌<◌, false, List, [], ◌∷◌, length, get_or, add-one, subst, sym, arith}
use Rattle.std.specs.List.Sorted.{IsSortedBy}
use Rattle.c_core.specs.Tree.{Program}
use Rattle.c_meaning.specs.declared.run.Duty.{Duty}
use Rattle.c_meaning.specs.Duties.{Placed, is_less}
use Rattle.c_duties.specs.Ordered.{AreInOrder, unsorted}
use Rattle.c_duties.proofs.Stable.{Rises, kept_sorted, rises_sorted, sorted_moves}

next_not_less : (xs : List Duty) → Rises xs → (k : ℕ) (d : Duty) → suc k < length xs → is_less (get_or xs (suc k) d) (get_or xs k d) ≡ false
next_not_less [] h k d l = absurd (omega arith)
next_not_less (x ∷ []) h k d l = absurd (omega arith)
next_not_less (x ∷ y ∷ xs) h zero d l = h.0.0
next_not_less (x ∷ y ∷ xs) h (suc k) d l = next_not_less (y ∷ xs) h.1 k d (omega arith)

sorted_from : (xs : List Duty) → Rises xs → IsSortedBy is_less xs
sorted_from xs h k d a b = subst (λ n. is_less (get_or xs n d) (get_or xs k d) ≡ false) (sym (add-one k)) (next_not_less xs h k d (omega arith))

pub are_in_order : (p : Program) (I : List Placed) → AreInOrder p I
are_in_order p I = record {
  same = sorted_moves (unsorted p I);
  rise = sorted_from _ (rises_sorted (unsorted p I));
  stable = λ z. kept_sorted z (unsorted p I);
}
